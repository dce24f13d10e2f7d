-- What is known of the rides of a query at minute u in a valid timetable: how large their numbers get.
use Rattle.std.specs.Prelude.{ℕ, ◌≤◌, ◌<◌}
use Rattle.timetable.specs.Timetable.{last_minute}
use Rattle.connections.specs.Rides.{Ride}

pub record Bounds (u : ℕ) (r : Ride) : Type 0 where
  pub leaves : u ≤ r.depart
  pub later : r.depart < r.arrive
  -- within the two days
  pub minute : r.arrive < 2880
  pub depart_minute : r.depart ≤ last_minute
  -- below what stands for no penalty, and for no trip
  pub few : r.points < 4294967295
  pub trip_few : r.trip < 65536
