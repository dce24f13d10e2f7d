-- Walks to lower stations, the station itself, and walks to higher ones, one behind the other.
use borrow.Author.Rules.{rules}
use Rattle.timetable.specs.Access.{stations_few, trips_few, stops_few}
use Rattle.store_slots.proofs.ListLaws.{end_few, below_room, here_room, here_twice, here_next, above_room}
use Rattle.store_slots.proofs.ListLaws.{from_end, from_written, from_kept}
use Rattle.store_slots.proofs.list_from.Goals as goal

pub walks_to-first-requires : goal.walks_to-first-requires
walks_to-first-requires c = (search rules, search stations_few, search trips_few, search stops_few, search rules)

pub walks_to-end-requires : goal.walks_to-end-requires
walks_to-end-requires c = (search rules, search stations_few, search trips_few, search stops_few, search rules)

pub list_walks-here-requires : goal.list_walks-here-requires
list_walks-here-requires c = (search rules, search rules, search end_few, search below_room)

pub offset_bounds-list-here : goal.offset_bounds-list-here
offset_bounds-list-here c = record { fits = search here_twice }

pub bounds-list-here : goal.bounds-list-here
bounds-list-here c = search here_room

pub overflow_add-here : goal.overflow_add-here
overflow_add-here c = record { fits = search here_next }

pub list_walks-requires : goal.list_walks-requires
list_walks-requires c = (search rules, search rules, search end_few, search above_room)

pub shape_of-list : goal.shape_of-list
shape_of-list c = search from_kept

pub returns-clause-list_after : goal.returns-clause-list_after
returns-clause-list_after c = search from_written

pub returns-clause-list_len_unchanged : goal.returns-clause-list_len_unchanged
returns-clause-list_len_unchanged c = search from_kept

pub returns-clause-value : goal.returns-clause-value
returns-clause-value c = search from_end
