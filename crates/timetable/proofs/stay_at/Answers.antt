-- The walk found says what the change says, or there is none, and the station does.
use borrow.Author.Rules.{rules}
use Rattle.timetable.specs.Access.{stations_few, trips_few, stops_few}
use Rattle.timetable.proofs.WalkToLaws.{station_few, place_few, walk_few, stays_kept, stays_afoot}
use Rattle.timetable.proofs.stay_at.Goals as goal

pub walks_to-requires : goal.walks_to-requires
walks_to-requires c = (search rules, search stations_few, search trips_few, search stops_few, search station_few)

pub station_at-requires : goal.station_at-requires
station_at-requires c = (search rules, search place_few)

pub returns-then-walks_to-k : goal.returns-then-walks_to-k
returns-then-walks_to-k c = search stays_kept

pub walk_at-walk-requires : goal.walk_at-walk-requires
walk_at-walk-requires c = (search rules, search stations_few, search trips_few, search stops_few, search walk_few)

pub returns : goal.returns
returns c = search stays_afoot
