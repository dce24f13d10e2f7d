-- The departure that the walk catches, and the walk's points.
use borrow.Author.Rules.{rules}
use Rattle.timetable.specs.Access.{stations_few, trips_few, stops_few}
use Rattle.store_stops.specs.OpenWays.{walk_within}
use Rattle.store_frontier.proofs.OntoLaws.{walk_inside, walk_bounds}
use Rattle.store_frontier.proofs.walk_bound.Goals as goal

pub walk_at-requires : goal.walk_at-requires
walk_at-requires c = (search rules, search stations_few, search trips_few, search stops_few, search walk_within)

pub caught_bound-requires : goal.caught_bound-requires
caught_bound-requires c = search walk_inside

pub returns : goal.returns
returns c = search walk_bounds
