-- What is known of the rides that the code notes: no sum of minutes or points grows too large for its words.
use Rattle.std.specs.Prelude.{List, ℕ, ◌≤◌, ◌<◌, get_or}
use Rattle.lists.specs.Lists.{◌∈◌}
use Rattle.connections.specs.Rides.{Ride}
use Rattle.optimality.specs.Bounds.{penalty_most}
use Rattle.query_rides.specs.declared.Ride.{Ride as RideStruct}
use Rattle.query_rides.specs.declared.Way.{Way}
use Rattle.query_rides.specs.Ways.{cost_in}

-- a ride as the code tells it, for one who has paid what p holds for its departure
pub record Fits (p : List ℕ) (s : RideStruct) : Type 0 where
  pub depart : s.depart < 2880
  pub arrive : s.arrive < 65536
  pub low : get_or p s.depart 0 ≤ penalty_most
  pub few : s.points.0 ≤ 287900

-- all rides of a list
pub record Fitting (p : List ℕ) (l : List Ride) : Type 0 where
  pub depart : (r : Ride) → r ∈ l → r.depart < 2880
  pub low : (r : Ride) → r ∈ l → get_or p r.depart 0 ≤ penalty_most
  pub few : (r : Ride) → r ∈ l → r.points ≤ 287900

-- what a way of changing takes and costs
pub record Priced (g : Way) : Type 0 where
  pub minutes_most : (cost_in g).minutes.0 ≤ 240
  pub points_most : (cost_in g).points.0 ≤ 1000
