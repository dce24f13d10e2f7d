-- Riders on their way, for a start at station a from minute t on. A rider who has changed so and so can board at x at
-- minute u, having paid p: by recursion on the changes, the last one first, which is the order in which a stored
-- sequence is read from the arc back to the root. Of a change the stations alighted and boarded at are told, and not
-- the way. No connection is listed.
use Rattle.std.specs.Prelude.{◌≡◌, List, [], ◌∷◌, ℕ, ◌+◌, ◌≤◌, ◌<◌}
use Rattle.lists.specs.Lists.{◌∈◌}
use Rattle.connections.specs.Rides.{Ride}
use Rattle.connections.specs.Connections.{Change, Transfer, transfer, Net, Changes, ready}

-- the stations of the changes, in their order, and then q
abbrev pub read_back : (changed : List Transfer) → List ℕ → List ℕ
read_back [] q = q
read_back (y ∷ rev) q = read_back rev (y.alighted ∷ y.boarded ∷ q)

module _ (n : Net) (a t : ℕ) where
  -- by a ride and a change from what was reached before
  pub record Layer (Below : (x u p : ℕ) → Type 0) (y : Transfer) (x u p : ℕ) : Type 0 where
    pub ride : Ride
    pub change : Change
    pub paid : ℕ
    pub listed : ride ∈ n.rides
    pub changes : Changes n ride change
    pub at : transfer change ≡ y
    pub to : change.to ≡ x
    pub timely : ready ride change ≤ u
    pub below : Below ride.from ride.depart paid
    pub total : p ≡ paid + ride.points + change.points

  -- can board at x at minute u, having paid p and changed so
  abbrev pub Along : (changed : List Transfer) (x u p : ℕ) → Type 0
  Along [] x u p = (x ≡ a) × (t ≤ u) × (p ≡ 0)
  Along (y ∷ rev) x u p = Layer (Along rev) y x u p

  -- arrives at b at minute v, having paid p and changed so
  pub record Ends (rev : List Transfer) (b v p : ℕ) : Type 0 where
    pub ride : Ride
    pub paid : ℕ
    pub listed : ride ∈ n.rides
    pub to : ride.to ≡ b
    pub minute : ride.arrive ≡ v
    pub below : Along rev ride.from ride.depart paid
    pub total : p ≡ paid + ride.points

  -- the same whatever the changes were
  pub record Reaches (x u p : ℕ) : Type 0 where
    pub changed : List Transfer
    pub along : Along changed x u p

  pub record Arrives (b v p : ℕ) : Type 0 where
    pub changed : List Transfer
    pub ends : Ends changed b v p

  -- minute v and penalty p lie on the frontier of b: no one is there by then for less, and earlier only for more
  pub record Frontier (b v p : ℕ) : Type 0 where
    pub least : (w q : ℕ) → Arrives b w q → w ≤ v → p ≤ q
    pub first : (w q : ℕ) → Arrives b w q → w < v → p < q
