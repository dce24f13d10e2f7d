-- What the query's code rests on: the least penalties along one stored sequence, change by change. From the values for
-- the changes so far one step gives those for one change more; the last step gives penalties for minutes of arrival,
-- for each connection of the sequence that of one that arrives no later and costs no more.
use Rattle.std.specs.Prelude.{◌≡◌, List, [], ◌∷◌, ℕ, ◌+◌, ◌≤◌, ◌<◌}
use Rattle.std.proofs.Common.{ap, arith}
use Rattle.lists.specs.Lists.{◌∈◌}
use Rattle.results.proofs.Best.{ByThen}
use Rattle.connections.specs.Rides.{Ride}
use Rattle.connections.specs.Connections.{Change, Transfer, transfer, Net, Changes, ready}
use Rattle.optimality.specs.Along.{Along, Ends}

-- Values are below inf where something is reached. They are asked for minutes below a limit only, below which every
-- ride leaves: one may be ready past it, but boards no more.
module _ (n : Net) (a t inf limit : ℕ) where
  -- val x u is the least penalty with which one who changed so can board at x at minute u
  pub record LeastAlong (rev : List Transfer) (val : ℕ → ℕ → ℕ) : Type 0 where
    pub attained : (x u : ℕ) → val x u < inf → Along n a t rev x u (val x u)
    pub below : (x u p : ℕ) → u < limit → Along n a t rev x u p → val x u ≤ p

  -- before the first ride
  pub record Starting (val : ℕ → ℕ → ℕ) : Type 0 where
    pub at_start : (u : ℕ) → t ≤ u → u < limit → val a u ≡ 0
    pub attained : (x u : ℕ) → val x u < inf → Along n a t [] x u (val x u)

  pub start_least : (val : ℕ → ℕ → ℕ) → Starting val → LeastAlong [] val
  start_least val s =
      record {
        attained = s.attained;
        below = λ x u p h g. omega (arith, s.at_start u g.1 h, ap (λ y. val y u) g.0);
      }

  -- by a ride and a change that a pattern names so
  pub record Last (y : Transfer) (val next : ℕ → ℕ → ℕ) (x u : ℕ) : Type 0 where
    pub ride : Ride
    pub change : Change
    pub listed : ride ∈ n.rides
    pub changes : Changes n ride change
    pub at : transfer change ≡ y
    pub to : change.to ≡ x
    pub timely : ready ride change ≤ u
    pub is : next x u ≡ val ride.from ride.depart + ride.points + change.points

  pub record Stepping (y : Transfer) (val next : ℕ → ℕ → ℕ) : Type 0 where
    pub over : (r : Ride) (w : Change) (u : ℕ) → r ∈ n.rides → Changes n r w → transfer w ≡ y → ready r w ≤ u
        → u < limit → next w.to u ≤ val r.from r.depart + r.points + w.points
    pub attained : (x u : ℕ) → next x u < inf → Last y val next x u

  module _
      (rev : List Transfer)
      (val : ℕ → ℕ → ℕ)
      (l : LeastAlong rev val)
      (leaves : (r : Ride) → r ∈ n.rides → r.depart < limit)
    where
      pub step_least : (y : Transfer) (next : ℕ → ℕ → ℕ) → Stepping y val next → LeastAlong (y ∷ rev) next
      step_least y next s = record { attained = attained; below = below }
        where
          attained : (x u : ℕ) → next x u < inf → Along n a t (y ∷ rev) x u (next x u)
          attained x u h =
              let k = s.attained x u h in
              let r = k.ride in
              record {
                ride = r;
                change = k.change;
                paid = val r.from r.depart;
                listed = k.listed;
                changes = k.changes;
                at = k.at;
                to = k.to;
                timely = k.timely;
                below = l.attained r.from r.depart (omega (arith, k.is));
                total = k.is;
              }

          below : (x u p : ℕ) → u < limit → Along n a t (y ∷ rev) x u p → next x u ≤ p
          below x u p h g =
              let r = g.ride in
              let o = s.over r g.change u g.listed g.changes g.at g.timely h in
              let k = l.below r.from r.depart g.paid (leaves r g.listed) g.below in
              omega (arith, ap (λ y. next y u) g.to, g.total)

      -- the last ride, to b
      pub record LastTo (b : ℕ) (best : ℕ → ℕ) (v : ℕ) : Type 0 where
        pub ride : Ride
        pub listed : ride ∈ n.rides
        pub to : ride.to ≡ b
        pub minute : ride.arrive ≡ v
        pub reached : val ride.from ride.depart < inf
        pub is : best v ≡ val ride.from ride.depart + ride.points

      -- from the values `old` of other sequences
      pub record Ending (b : ℕ) (old best : ℕ → ℕ) : Type 0 where
        pub over : (r : Ride) → r ∈ n.rides → r.to ≡ b → val r.from r.depart < inf
            → ByThen best r.arrive (val r.from r.depart + r.points)
        pub attained : (v : ℕ) → best v < old v → LastTo b best v

      module _ (b : ℕ) (old best : ℕ → ℕ) (e : Ending b old best) where
        pub end_attained : (v : ℕ) → best v < old v → Ends n a t rev b v (best v)
        end_attained v h =
            let k = e.attained v h in
            let r = k.ride in
            record {
              ride = r;
              paid = val r.from r.depart;
              listed = k.listed;
              to = k.to;
              minute = k.minute;
              below = l.attained r.from r.depart k.reached;
              total = k.is;
            }

        pub end_below : (v p : ℕ) → p < inf → Ends n a t rev b v p → ByThen best v p
        end_below v p h g =
            let r = g.ride in
            let k = l.below r.from r.depart g.paid (leaves r g.listed) g.below in
            let o = e.over r g.listed g.to (omega (arith, g.total)) in
            record {
              minute = o.minute;
              until = omega (arith, o.until, g.minute);
              low = omega (arith, o.low, g.total);
            }
