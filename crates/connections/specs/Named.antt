-- What a ride is known by: its numbers.
use Rattle.std.specs.Prelude.{◌≡◌}
use Rattle.lists.specs.Lists.{◌∈◌}
use Rattle.connections.specs.Rides.{Ride}
use Rattle.connections.specs.Connections.{Net}

pub record Named (n : Net) : Type 0 where
  pub ride : (r s : Ride) → r ∈ n.rides → s ∈ n.rides → r.trip ≡ s.trip → r.board ≡ s.board
      → r.alight ≡ s.alight → r ≡ s
