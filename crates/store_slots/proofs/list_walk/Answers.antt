-- One slot or none.
use borrow.Author.Rules.{rules}
use Rattle.timetable.specs.Access.{stations_few, trips_few, stops_few}
use Rattle.store_slots.proofs.ListLaws.{walk_room, walk_written, walk_end, none_written, none_end}
use Rattle.store_slots.proofs.list_walk.Goals as goal

pub walk_at-requires : goal.walk_at-requires
walk_at-requires c = (search rules, search stations_few, search trips_few, search stops_few, search rules)

pub bounds-list-at : goal.bounds-list-at
bounds-list-at c = search walk_room

pub returns-then-is_beyond-clause-list_after : goal.returns-then-is_beyond-clause-list_after
returns-then-is_beyond-clause-list_after c = search walk_written

pub returns-then-is_beyond-clause-value : goal.returns-then-is_beyond-clause-value
returns-then-is_beyond-clause-value c = search walk_end

pub returns-clause-list_after : goal.returns-clause-list_after
returns-clause-list_after c = search none_written

pub returns-clause-value : goal.returns-clause-value
returns-clause-value c = search none_end
