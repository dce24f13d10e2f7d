-- A walk is one of those from the station if it stands before those of the next.
use borrow.Author.Rules.{rules}
use Rattle.timetable.specs.Access.{stations_few, trips_few, stops_few}
use Rattle.store_marks.proofs.WholeLaws.{station_low, walk_room, walk_held, walk_rides, walk_not}
use Rattle.store_marks.proofs.ride_walk.Goals as goal

pub walks_to-requires : goal.walks_to-requires
walks_to-requires c = (search rules, search stations_few, search trips_few, search stops_few, search station_low)

pub walk_at-requires : goal.walk_at-requires
walk_at-requires c = (search rules, search stations_few, search trips_few, search stops_few, search walk_room)

pub ride_all-requires-clause-way : goal.ride_all-requires-clause-way
ride_all-requires-clause-way c = (search walk_held, search rules)

pub returns-then-k-walks_to-clause-x_after : goal.returns-then-k-walks_to-clause-x_after
returns-then-k-walks_to-clause-x_after c = search walk_rides

pub returns-else-k-walks_to-clause-x_after : goal.returns-else-k-walks_to-clause-x_after
returns-else-k-walks_to-clause-x_after c = search walk_not
