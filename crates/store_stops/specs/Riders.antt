-- The riders that go stop by stop are those of the reckoning, who take rides of the net: they board and arrive at the
-- same places and minutes, and have paid the same.
use Rattle.std.specs.Prelude.{◌≡◌, refl, true, ◌↔◌, List, [], ◌∷◌, ℕ, suc, ◌+◌}
use Rattle.std.proofs.Common.{sym, ap, subst, ◌∙◌, arith}
use Rattle.timetable.specs.Words.{is_timetable}
use Rattle.lists.specs.Lists.{◌∈◌}
use Rattle.connections.specs.Rides.{Ride}
use Rattle.connections.specs.Connections.{Change, Transfer, transfer, Net}
use Rattle.optimality.specs.Along.{Along, Ends}
use Rattle.store_stops.specs.Stopwise.{station, arrive, depart, Goes, Boards, Alights, Ridden, ridden}
use Rattle.store_stops.specs.Paid.{Changed, Paid, Arrived}
use Rattle.store_stops.specs.RideStops.{net_of, ridden_goes, ride_of_lem, stops_of_lem, catches_of, changes_by}

-- what a change is called by its stations
pub transfer_is : (x : Change) (c : Transfer) → x.from ≡ c.alighted → x.to ≡ c.boarded → transfer x ≡ c
transfer_is x c e f =
    ap (λ y. record { alighted = y; boarded = x.to }) e ∙ ap (λ y. record { alighted = c.alighted; boarded = y }) f

-- the arrival of a rider of the reckoning, stop by stop
pub record Ended (w : List ℕ) (a d : ℕ) (rev : List Transfer) (b v p : ℕ) : Type 0 where
  pub i : ℕ
  pub goes : Goes w i
  pub alights : Alights w (suc i)
  pub arrived : Arrived w a d rev (suc i) p
  pub here : station w (suc i) ≡ b
  pub minute : arrive w (suc i) ≡ v

-- a ride, taken by one who has changed so and paid p before, stop by stop
pub record Aboard (w : List ℕ) (a d : ℕ) (rev : List Transfer) (r : Ride) (p : ℕ) : Type 0 where
  pub i : ℕ
  pub m : ℕ
  pub rides : Ridden w i (suc m)
  pub boards : Boards w i
  pub alights : Alights w (suc (i + m))
  pub from : r.from ≡ station w i
  pub to : r.to ≡ station w (suc (i + m))
  pub leaves : r.depart ≡ depart w i
  pub comes : r.arrive ≡ arrive w (suc (i + m))
  pub costs : r.points ≡ ridden w i (suc m)
  pub arrived : Arrived w a d rev (suc (i + m)) (p + r.points)

module _ (w : List ℕ) (yes : is_timetable w ≡ true) (a d : ℕ) where
  abbrev n : Net
  n = net_of w

  -- ---- from stops to rides
  abbrev ToAlong : List Transfer → Type 0
  ToAlong rev = (g p : ℕ) → Paid w a d rev g p → Along n a d rev (station w g) (depart w g) p

  -- who can board at a stop boards there
  paid_boards : (rev : List Transfer) (g p : ℕ) → Paid w a d rev g p → Boards w g
  paid_boards [] g p h = h.0
  paid_boards (c ∷ rev) g p h = h.catches.catches.boards

  arrived_to : (rev : List Transfer) → ToAlong rev → (j p : ℕ) → Arrived w a d rev j p → Alights w j
      → Ends n a d rev (station w j) (arrive w j) p
  arrived_to rev along j p h alights =
      let boards = paid_boards rev h.from h.paid h.boards in
      let k =
      ride_of_lem w yes h.from h.stops h.some h.rides boards.opens
      (subst (Alights w) (sym h.to) alights) in
      let r = k.ride in
      let s = k.same in
      let b = along h.from h.paid h.boards in
      record {
        ride = r;
        paid = h.paid;
        listed = s.listed;
        to = s.to ∙ ap (station w) h.to;
        minute = s.comes ∙ ap (arrive w) h.to;
        below = rw (s.from, s.leaves) b;
        total = omega (arith, h.total, s.costs);
      }

  -- a change behind an arrival
  change_to : (rev : List Transfer) (c : Transfer) (g p : ℕ) (h : Changed w a d (Paid w a d rev) c g p)
      → Ends n a d rev (station w h.at) (arrive w h.at) h.before
      → Along n a d (c ∷ rev) (station w g) (depart w g) p
  change_to rev c g p h e =
      let r = e.ride in
      let x = h.catches.way in
      let k = h.catches.catches in
      record {
        ride = r;
        change = x;
        paid = e.paid;
        listed = e.listed;
        changes = changes_by w yes r x h.at g k e.to;
        at = transfer_is x c (sym k.from ∙ h.here) (sym k.to ∙ h.there);
        to = sym k.to;
        timely = omega (arith, e.minute, k.timely);
        below = e.below;
        total = omega (arith, h.total, e.total, h.catches.price);
      }

  paid_to : (rev : List Transfer) → ToAlong rev
  paid_to [] g p h = (h.1, h.2, h.3)
  paid_to (c ∷ rev) g p h =
      change_to rev c g p h
      (arrived_to rev (paid_to rev) h.at h.before h.rode h.catches.catches.alights)

  -- ---- from rides to stops
  along_at : (rev : List Transfer) (p : ℕ) {x y u v : ℕ} → x ≡ y → u ≡ v → Along n a d rev x u p → Along n a d rev y v p
  along_at rev p {x} {y} {u} {v} e f h =
      subst (λ z. Along n a d rev z v p) e (subst (λ z. Along n a d rev x z p) f h)

  abbrev ToPaid : List Transfer → Type 0
  ToPaid rev = (g p : ℕ) → Boards w g → Along n a d rev (station w g) (depart w g) p → Paid w a d rev g p

  ride_from_lem : (rev : List Transfer) → ToPaid rev → (r : Ride) (p : ℕ) → r ∈ n.rides
      → Along n a d rev r.from r.depart p → Aboard w a d rev r p
  ride_from_lem rev paid r p l h =
      let k = stops_of_lem w yes r l in
      let s = k.same in
      let goes = ridden_goes w k.i (suc k.m) s.some s.rides in
      let g : Boards w k.i = record { goes = goes; opens = s.boards } in
      let end : k.i + suc k.m ≡ suc (k.i + k.m) = omega arith in
      record {
        i = k.i;
        m = k.m;
        rides = s.rides;
        boards = g;
        alights = subst (Alights w) end s.alights;
        from = s.from;
        to = s.to ∙ ap (station w) end;
        leaves = s.leaves;
        comes = s.comes ∙ ap (arrive w) end;
        costs = s.costs;
        arrived =
            record {
              from = k.i;
              stops = suc k.m;
              paid = p;
              boards = paid k.i p g (along_at rev p s.from s.leaves h);
              some = s.some;
              rides = s.rides;
              to = end;
              total = omega (arith, s.costs);
            };
      }

  ends_to : (rev : List Transfer) → ToPaid rev → (b v p : ℕ) → Ends n a d rev b v p → Ended w a d rev b v p
  ends_to rev paid b v p e =
      let k = ride_from_lem rev paid e.ride e.paid e.listed e.below in
      record {
        i = k.i + k.m;
        goes = k.rides k.m (omega arith);
        alights = k.alights;
        arrived = subst (Arrived w a d rev (suc (k.i + k.m))) (sym e.total) k.arrived;
        here = sym k.to ∙ e.to;
        minute = sym k.comes ∙ e.minute;
      }

  -- the arrival before a change
  pub layer_ends : (rev : List Transfer) (c : Transfer) (x u p : ℕ) (h : Along n a d (c ∷ rev) x u p)
      → Ends n a d rev h.ride.to h.ride.arrive (h.paid + h.ride.points)
  layer_ends rev c x u p h =
      record {
        ride = h.ride;
        paid = h.paid;
        listed = h.listed;
        to = refl;
        minute = refl;
        below = h.below;
        total = refl;
      }

  change_from : (rev : List Transfer) → ToPaid rev → (c : Transfer) (g p : ℕ) → Boards w g
      → Along n a d (c ∷ rev) (station w g) (depart w g) p → Paid w a d (c ∷ rev) g p
  change_from rev paid c g p boards h =
      let r = h.ride in
      let x = h.change in
      let q = h.paid + r.points in
      let e = ends_to rev paid r.to r.arrive q (layer_ends rev c (station w g) (depart w g) p h) in
      let j = suc e.i in
      record {
        at = j;
        before = q;
        price = x.points;
        rode = e.arrived;
        here = e.here ∙ sym h.changes.here ∙ ap (λ (y : Transfer). y.alighted) h.at;
        there = sym h.to ∙ ap (λ (y : Transfer). y.boarded) h.at;
        catches =
            record {
              way = x;
              catches =
                  catches_of w yes r x j g h.changes (sym e.here) (sym e.minute) e.alights boards
                  (sym h.to) h.timely;
              price = refl;
            };
        total = h.total;
      }

  paid_from : (rev : List Transfer) → ToPaid rev
  paid_from [] g p boards h = (boards, h.0, h.1, h.2)
  paid_from (c ∷ rev) g p boards h = change_from rev (paid_from rev) c g p boards h

  -- ---- the same riders
  pub paid_along : (rev : List Transfer) (g p : ℕ) → Boards w g
      → Paid w a d rev g p ↔ Along (net_of w) a d rev (station w g) (depart w g) p
  paid_along rev g p boards = (paid_to rev g p, paid_from rev g p boards)

  pub arrived_ends : (rev : List Transfer) (j p : ℕ) → Arrived w a d rev j p → Alights w j
      → Ends (net_of w) a d rev (station w j) (arrive w j) p
  arrived_ends rev j p h alights = arrived_to rev (paid_to rev) j p h alights

  pub ends_arrived : (rev : List Transfer) (b v p : ℕ) → Ends (net_of w) a d rev b v p → Ended w a d rev b v p
  ends_arrived rev b v p e = ends_to rev (paid_from rev) b v p e

  pub aboard : (rev : List Transfer) (r : Ride) (p : ℕ) → r ∈ (net_of w).rides
      → Along (net_of w) a d rev r.from r.depart p → Aboard w a d rev r p
  aboard rev r p l h = ride_from_lem rev (paid_from rev) r p l h
