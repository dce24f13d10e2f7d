-- The first ride of a connection, and the optimal connections of one sequence.
use Rattle.std.specs.Prelude.{◌≡◌, List, ℕ}
use Rattle.connections.specs.Rides.{Ride}
use Rattle.connections.specs.Connections.{Net, Connection, direct, onward, Optimal}
use Rattle.connections.specs.Connections.{stations}

abbrev pub first_ride : Connection → Ride
first_ride (direct r) = r
first_ride (onward r w c) = r

-- an optimal connection of this sequence
pub record Way (n : Net) (a t b : ℕ) (q : List ℕ) : Type 0 where
  pub connection : Connection
  pub optimal : Optimal n a t b connection
  pub is : stations connection ≡ q
