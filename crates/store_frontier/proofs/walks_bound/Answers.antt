use borrow.Author.Rules.{rules}
use Rattle.timetable.specs.Access.{stations_few, trips_few, stops_few}
use Rattle.store_stops.specs.OpenWays.{station_most, before_most, walks_begin, walks_ordered, walk_from_here}
use Rattle.store_frontier.proofs.OntoLaws.{walks_first, walks_more, walks_last}
use Rattle.store_frontier.proofs.walks_bound.Goals as goal

pub walks_to-end-requires : goal.walks_to-end-requires
walks_to-end-requires c = (
  search rules,
  search stations_few,
  search trips_few,
  search stops_few,
  search station_most,
)

pub walks_to-begin-requires : goal.walks_to-begin-requires
walks_to-begin-requires c = (
  search rules,
  search stations_few,
  search trips_few,
  search stops_few,
  search before_most,
)

pub loop-k-init : goal.loop-k-init
loop-k-init c = (search walks_begin, search walks_ordered, search walks_first)

pub walk_bound-requires : goal.walk_bound-requires
walk_bound-requires c = (
  search rules,
  search rules,
  search rules,
  search rules,
  search rules,
  search walk_from_here,
)

pub loop-k-preserved : goal.loop-k-preserved
loop-k-preserved c = (search rules, search rules, search walks_more)

pub returns : goal.returns
returns c = search walks_last
