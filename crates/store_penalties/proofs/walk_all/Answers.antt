use borrow.Author.Rules.{rules}
use Rattle.timetable.specs.Access.{stations_few, trips_few, stops_few}
use Rattle.store_stops.specs.OpenWays.{station_most, before_most, walks_begin, walks_ordered, walk_from_here}
use Rattle.store_penalties.proofs.ChangeLaws.{none_walked, one_walked, all_walked}
use Rattle.store_penalties.proofs.walk_all.Goals as goal

pub walks_to-end-requires : goal.walks_to-end-requires
walks_to-end-requires c = (
  search rules,
  search stations_few,
  search trips_few,
  search stops_few,
  search station_most,
)

pub walks_to-k-requires : goal.walks_to-k-requires
walks_to-k-requires c = (
  search rules,
  search stations_few,
  search trips_few,
  search stops_few,
  search before_most,
)

pub loop-k-init : goal.loop-k-init
loop-k-init c = (search walks_begin, search rules, search none_walked)

pub walk-requires : goal.walk-requires
walk-requires c = (search rules, search rules, search rules, search rules, search walk_from_here, search rules)

pub loop-k-preserved : goal.loop-k-preserved
loop-k-preserved c = (search rules, search rules, search one_walked)

pub returns-clause-offering : goal.returns-clause-offering
returns-clause-offering c = search (all_walked, c.loop-k.auto.k-end, walks_ordered)
