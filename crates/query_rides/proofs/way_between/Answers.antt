-- The walk that was found, or else the station's own change.
use borrow.Author.Rules.{rules}
use Rattle.timetable.specs.Access.{stations_few, trips_few, stops_few}
use Rattle.query_rides.proofs.WaysLaws.{station_few, walk_few, way_own, way_afoot}
use Rattle.query_rides.proofs.way_between.Goals as goal

pub change_at-here-requires : goal.change_at-here-requires
change_at-here-requires c = (search rules, search rules, search station_few)

pub walks_to-requires : goal.walks_to-requires
walks_to-requires c = (search rules, search stations_few, search trips_few, search stops_few, search station_few)

pub returns-then-walks_to-k : goal.returns-then-walks_to-k
returns-then-walks_to-k c = search way_own

pub walk_at-walk-requires : goal.walk_at-walk-requires
walk_at-walk-requires c = (search rules, search stations_few, search trips_few, search stops_few, search walk_few)

pub returns : goal.returns
returns c = search way_afoot
