-- The walk is read.
use borrow.Author.Rules.{rules}
use Rattle.timetable.specs.Access.{stations_few, trips_few, stops_few}
use Rattle.store_catches.proofs.KeepLaws.{arrival_few, arrival_minute, walk_few, walk_near, walk_caught}
use Rattle.store_catches.proofs.seek_on_foot.Goals as goal

pub walk_at-requires : goal.walk_at-requires
walk_at-requires c = (search rules, search stations_few, search trips_few, search stops_few, search walk_few)

pub seek_by_walk-requires : goal.seek_by_walk-requires
seek_by_walk-requires c = (
  search rules,
  search rules,
  search rules,
  search arrival_few,
  search arrival_minute,
  search walk_near,
)

pub returns : goal.returns
returns c = (search walk_caught, search rules)
