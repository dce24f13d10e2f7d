-- The change at the station itself is offered, and then those on foot.
use Rattle.store_stops.specs.OpenWays.{station_most}
use Rattle.store_departures.specs.Held.{held_first}
use Rattle.store_penalties.proofs.ChangeLaws.{change_fits, all_open, own_open}
use Rattle.store_penalties.proofs.change.Goals as goal

pub change_points-requires : goal.change_points-requires
change_points-requires c = (search held_first, search station_most)

pub sum-requires : goal.sum-requires
sum-requires c = search change_fits

pub has_walks-requires : goal.has_walks-requires
has_walks-requires c = search held_first

pub returns-then-has_walks-clause-offering : goal.returns-then-has_walks-clause-offering
returns-then-has_walks-clause-offering c = search all_open

pub returns-else-has_walks-clause-offering : goal.returns-else-has_walks-clause-offering
returns-else-has_walks-clause-offering c = search own_open
