use borrow.Author.Rules.{rules}
use Rattle.timetable.specs.Access.{stations_few, trips_few, stops_few}
use Rattle.store_marks.proofs.ArrivalLaws.{arrival_some, arrival_low, before_low}
use Rattle.store_marks.proofs.ArrivalLaws.{walks_begun, walk_from_there, walks_start, walks_on, walks_done}
use Rattle.store_marks.proofs.mark_walks.Goals as goal

pub overflow_sub-b : goal.overflow_sub-b
overflow_sub-b c = search arrival_some

pub walks_to-begin-requires : goal.walks_to-begin-requires
walks_to-begin-requires c = (search rules, search stations_few, search trips_few, search stops_few, search before_low)

pub walks_to-end-requires : goal.walks_to-end-requires
walks_to-end-requires c = (search rules, search stations_few, search trips_few, search stops_few, search arrival_low)

pub loop-k-init : goal.loop-k-init
loop-k-init c = (search rules, search walks_begun, search rules, search walks_start)

pub mark_walk-requires-clause-from_station : goal.mark_walk-requires-clause-from_station
mark_walk-requires-clause-from_station c = (search walk_from_there, search rules, search rules)

pub loop-k-preserved : goal.loop-k-preserved
loop-k-preserved c = (search rules, search rules, search rules, search walks_on)

pub returns-clause-kids_after : goal.returns-clause-kids_after
returns-clause-kids_after c = search walks_done
