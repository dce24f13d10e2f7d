-- The change at the station itself, and the walks from there: the more of what they allow.
use borrow.Author.Rules.{rules}
use Rattle.timetable.specs.Access.{stations_few}
use Rattle.store_stops.specs.OpenWays.{station_most}
use Rattle.store_departures.specs.Held.{held_first}
use Rattle.store_frontier.proofs.OntoLaws.{station_some, station_listed, station_here, here_inside, onto_bounds}
use Rattle.store_frontier.proofs.OntoLaws.{own_bounds}
use Rattle.store_frontier.proofs.onto_bound.Goals as goal

pub stop_at-c-requires : goal.stop_at-c-requires
stop_at-c-requires c = (search rules, search stations_few, search rules)

pub change_points-requires : goal.change_points-requires
change_points-requires c = (search held_first, search (station_most, station_listed))

pub caught_bound-here-requires : goal.caught_bound-here-requires
caught_bound-here-requires c = search here_inside

pub has_walks-requires : goal.has_walks-requires
has_walks-requires c = search held_first

pub walks_bound-requires : goal.walks_bound-requires
walks_bound-requires c = (
  search rules,
  search rules,
  search rules,
  search rules,
  search station_some,
  search station_listed,
  search rules,
  search station_here,
)

pub returns-then-has_walks : goal.returns-then-has_walks
returns-then-has_walks c = search onto_bounds

pub returns : goal.returns
returns c = search own_bounds
