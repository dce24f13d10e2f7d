use Rattle.store_tree.proofs.LayLaws.{hit_room}
use Rattle.store_tree.specs.LaidSteps.{hits_more, hits_none}
use Rattle.store_slots.specs.Writing.{writing_first, writing_more, writing_done, writing_end}
use borrow.Author.Rules.{rules}
use Rattle.store_tree.proofs.write_hits.Goals as goal

pub loop-i-init : goal.loop-i-init
loop-i-init c = (search rules, search writing_first)

pub write_arc-here-requires : goal.write_arc-here-requires
write_arc-here-requires c = (search rules, search rules, search hit_room)

pub loop-i-preserved : goal.loop-i-preserved
loop-i-preserved c = (search rules, search (writing_more, hits_more))

pub returns-clause-store_after : goal.returns-clause-store_after
returns-clause-store_after c = search (writing_done, hits_none)

pub returns-clause-value : goal.returns-clause-value
returns-clause-value c = search (writing_end, hits_none)
