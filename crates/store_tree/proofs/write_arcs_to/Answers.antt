use Rattle.store_tree.proofs.LayLaws.{total_first, to_first, targets_inside, to_room, total_next, to_more}
use Rattle.store_tree.proofs.LayLaws.{to_done, to_end}
use borrow.Author.Rules.{rules}
use Rattle.store_tree.proofs.write_arcs_to.Goals as goal

pub loop-v-init : goal.loop-v-init
loop-v-init c = (search rules, search total_first, search to_first)

pub write_hits-here-requires : goal.write_hits-here-requires
write_hits-here-requires c = (search rules, search rules, search targets_inside, search to_room)

pub loop-v-preserved : goal.loop-v-preserved
loop-v-preserved c = (search rules, search total_next, search to_more)

pub returns-clause-store_after : goal.returns-clause-store_after
returns-clause-store_after c = search to_done

pub returns-clause-value : goal.returns-clause-value
returns-clause-value c = search to_end
