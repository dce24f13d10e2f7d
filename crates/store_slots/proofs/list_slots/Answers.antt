use borrow.Author.Rules.{rules}
use Rattle.store_slots.proofs.ListLaws.{station_few, station_last, all_first, all_room, all_more, all_counted}
use Rattle.store_slots.proofs.ListLaws.{all_few, all_listed}
use Rattle.store_slots.proofs.list_slots.Goals as goal

pub loop-y-init : goal.loop-y-init
loop-y-init c = (search rules, search all_first)

pub list_from-here-requires : goal.list_from-here-requires
list_from-here-requires c = (
  search rules,
  search rules,
  search rules,
  search station_few,
  search station_last,
  search rules,
  search all_room,
)

pub loop-y-preserved : goal.loop-y-preserved
loop-y-preserved c = (search rules, search all_more)

pub returns-clause-list_after : goal.returns-clause-list_after
returns-clause-list_after c = search all_listed

pub returns-clause-value : goal.returns-clause-value
returns-clause-value c = (search all_counted, search all_few)
