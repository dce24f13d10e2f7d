-- The walk's points are added, and the word of the departure that it catches is lowered to the sum.
use borrow.Author.Rules.{rules}
use Rattle.timetable.specs.Access.{stations_few, trips_few, stops_few}
use Rattle.store_stops.specs.OpenWays.{walk_within}
use Rattle.store_penalties.proofs.ChangeLaws.{walk_fits_lem, walked}
use Rattle.store_penalties.proofs.walk.Goals as goal

pub walk_at-walk-requires : goal.walk_at-walk-requires
walk_at-walk-requires c = (
  search rules,
  search stations_few,
  search trips_few,
  search stops_few,
  search walk_within,
)

pub sum-requires : goal.sum-requires
sum-requires c = search walk_fits_lem

pub returns-clause-offering : goal.returns-clause-offering
returns-clause-offering c = search walked
