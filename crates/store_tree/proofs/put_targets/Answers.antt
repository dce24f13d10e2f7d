use Rattle.store_tree.proofs.MarkLaws.{targets_first, target_room, target_more, targets_done}
use borrow.Author.Rules.{rules}
use Rattle.store_tree.proofs.put_targets.Goals as goal

pub loop-j-init : goal.loop-j-init
loop-j-init c = (search rules, search targets_first)

pub put_target-here-requires : goal.put_target-here-requires
put_target-here-requires c = search target_room

pub loop-j-preserved : goal.loop-j-preserved
loop-j-preserved c = (search rules, search target_more)

pub returns-clause-targets_after : goal.returns-clause-targets_after
returns-clause-targets_after c = search targets_done
