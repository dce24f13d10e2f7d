-- A walk from a station to itself has the slot of that station.
use borrow.Author.Rules.{rules}
use Rattle.timetable.specs.Access.{stations_few, trips_few, stops_few}
use Rattle.store_slots.proofs.ListLaws.{walk_few, from_some, from_small, slot_here, foot_small, foot_fits}
use Rattle.store_slots.proofs.ListLaws.{slot_foot}
use Rattle.store_slots.proofs.walk_slot.Goals as goal

pub walk_at-walk-requires : goal.walk_at-walk-requires
walk_at-walk-requires c = (search rules, search stations_few, search trips_few, search stops_few, search walk_few)

pub overflow_sub-result : goal.overflow_sub-result
overflow_sub-result c = search from_some

pub returns-then-walk : goal.returns-then-walk
returns-then-walk c = (search slot_here, search from_small)

pub overflow_add-result : goal.overflow_add-result
overflow_add-result c = record { fits = search foot_fits }

pub returns : goal.returns
returns c = (search slot_foot, search foot_small)
