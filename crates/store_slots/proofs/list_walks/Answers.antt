use borrow.Author.Rules.{rules}
use Rattle.store_slots.specs.Listing.{side_more, side_none}
use Rattle.store_slots.specs.Writing.{writing_first, writing_more, writing_done, writing_end}
use Rattle.store_slots.proofs.ListLaws.{side_room}
use Rattle.store_slots.proofs.list_walks.Goals as goal

pub loop-k-init : goal.loop-k-init
loop-k-init c = (search rules, search writing_first)

pub list_walk-here-requires : goal.list_walk-here-requires
list_walk-here-requires c = (search rules, search rules, search rules, search side_room)

pub loop-k-preserved : goal.loop-k-preserved
loop-k-preserved c = (search rules, search (writing_more, side_more))

pub returns-clause-list_after : goal.returns-clause-list_after
returns-clause-list_after c = search (writing_done, side_none)

pub returns-clause-value : goal.returns-clause-value
returns-clause-value c = search (writing_end, side_none)
