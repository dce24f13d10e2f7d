-- The rides and changes of a timetable's net, stop by stop: who boards at a stop and rides on some stops takes a ride,
-- and each ride is taken so.
use Rattle.std.specs.Prelude.{◌≡◌, true, List, [], T, leb, ltb, length, get_or}
use Rattle.std.proofs.Math.Path.{refl, ap}
use Rattle.std.proofs.Common.{sym, subst, ◌∙◌, add-one, leb→le, ltb→lt, nltb→le}
use Prim.Native.Nat.{ℕ, zero, suc, ◌+◌, ◌-◌, ◌≤◌, ◌<◌}
use native.Mathlib.Omega.{arith}
use Rattle.std.proofs.Math.Dec.{nleb→lt}
use Rattle.timetable.specs.Timetable.{Trip}
use Rattle.timetable.specs.Words.{trip_count, stop_at, start_at, timetable_of, is_timetable}
use Rattle.timetable.specs.Check.{length_trips}
use Rattle.timetable.specs.Access.{trip_is, trip_long, stop_is, trip_stops_lem, spelled_valid}
use Rattle.lists.specs.Lists.{◌∈◌}
use Rattle.lists.specs.Tests.{either}
use Rattle.connections.specs.Rides.{Ride, no_stop, ride_points, ride_in, may_board}
use Rattle.connections.specs.Connections.{Change, Net, net, Changes, ready}
use Rattle.connections.proofs.RideLaws.{rides_in, rides_out, board_alike, alight_alike, points_split, points_more}
use Rattle.connections.proofs.Sound.{Sound, sound}
use Rattle.store_stops.specs.Stopwise.{
  station,
  arrive,
  depart,
  points,
  Goes,
  Boards,
  Alights,
  Ridden,
  ridden,
  CatchesBy,
}

abbrev pub net_of : List ℕ → Net
net_of w = net (timetable_of w)

-- ---- what is paid on a ride
module _ (w : List ℕ) where
  pub ridden_none : (i : ℕ) → ridden w i 0 ≡ 0
  unfolding ridden
  ridden_none i = refl

  pub ridden_one : (i : ℕ) → ridden w i 1 ≡ points w i
  unfolding ridden
  ridden_one i = omega arith

  -- one stop further
  pub ridden_more : (i n : ℕ) → ridden w i (suc n) ≡ ridden w i n + points w (i + n)
  unfolding ridden
  ridden_more i zero = let e : i + 0 ≡ i = omega arith in omega (arith, ap (points w) e)
  ridden_more i (suc n) =
      let e : i + suc n ≡ suc i + n = omega arith in
      omega (arith, ridden_more (suc i) n, ap (points w) e)

  -- a ride of some stops leaves its first stop
  pub ridden_goes : (i n : ℕ) → 1 ≤ n → Ridden w i n → Goes w i
  ridden_goes i n h r = subst (Goes w) (omega arith) (r 0 h)

  pub ridden_once : (i : ℕ) → Goes w i → Ridden w i 1
  ridden_once i g k h = subst (Goes w) (omega arith) g

  pub ridden_on : (i n : ℕ) → Ridden w i n → Goes w (i + n) → Ridden w i (suc n)
  ridden_on i n r g k h =
      either
      (ltb k n)
      (λ t. r k (ltb→lt k n t))
      (λ t. let m = nltb→le k n t in let e : i + n ≡ i + k = omega arith in subst (Goes w) e g)

-- ---- what rides of the net are the same
module _ (w : List ℕ) where
  -- this ride boards at stop i and alights n stops on
  pub record SameRide (r : Ride) (i n : ℕ) : Type 0 where
    pub listed : r ∈ (net_of w).rides
    pub some : 1 ≤ n
    pub rides : Ridden w i n
    pub boards : T (may_board (stop_at w i))
    pub alights : Alights w (i + n)
    pub from : r.from ≡ station w i
    pub to : r.to ≡ station w (i + n)
    pub leaves : r.depart ≡ depart w i
    pub comes : r.arrive ≡ arrive w (i + n)
    pub costs : r.points ≡ ridden w i n

  pub record RideOf (i n : ℕ) : Type 0 where
    pub ride : Ride
    pub same : SameRide ride i n

  pub record StopsOf (r : Ride) : Type 0 where
    pub i : ℕ
    pub m : ℕ
    pub same : SameRide r i (suc m)

-- ---- trips are runs of stops
module _ (w : List ℕ) (yes : is_timetable w ≡ true) where
  starts_rise : (k j : ℕ) → j ≤ k → k ≤ trip_count w → start_at w j ≤ start_at w k
  starts_rise zero j h g = let e : j ≡ 0 = omega arith in omega (arith, ap (start_at w) e)
  starts_rise (suc k) j h g =
      either
      (leb j k)
      (λ t. before (starts_rise k j (leb→le j k t) (omega arith)))
      (λ t. let e : j ≡ suc k = omega (arith, nleb→lt j k t) in omega (arith, ap (start_at w) e))
    where
      before : start_at w j ≤ start_at w k → start_at w j ≤ start_at w (suc k)
      before i = omega (arith, i, trip_stops_lem w yes k g, ap (start_at w) (add-one k))

  -- a stop stands in one trip
  record Inside (z i : ℕ) : Type 0 where
    listed : z < trip_count w
    begun : start_at w z ≤ i
    before : i < start_at w (z + 1)

  not_later : (z y i : ℕ) → Inside z i → Inside y i → ¬ (z < y)
  not_later z y i f g h =
      omega (arith, f.before, g.begun, starts_rise y (z + 1) (omega arith) (omega (arith, g.listed)))

  same_trip_lem : (z y i : ℕ) → Inside z i → Inside y i → z ≡ y
  same_trip_lem z y i f g =
      either
      (ltb z y)
      (λ t. absurd (not_later z y i f g (ltb→lt z y t)))
      (λ t. either
      (ltb y z)
      (λ s. absurd (not_later y z i g f (ltb→lt y z s)))
      (λ s. omega (arith, nltb→le z y t, nltb→le y z s)))

  -- who stays aboard stays on the trip
  stays_inside : (n i z : ℕ) → z < trip_count w → start_at w z ≤ i → i < start_at w (z + 1) → Ridden w i n
      → i + n < start_at w (z + 1)
  stays_inside zero i z l b h r = omega arith
  stays_inside (suc n) i z l b h r =
      let now = stays_inside n i z l b h (λ k g. r k (omega arith)) in
      let g = r n (omega arith) in
      let e = same_trip_lem
      z
      g.trip
      (i + n)
      (record { listed = l; begun = omega arith; before = now })
      (record { listed = g.listed; begun = g.begun; before = omega (arith, g.inside) }) in
      omega (arith, g.inside, ap (λ y. start_at w (y + 1)) e)

  -- ---- rides
  module _ (z : ℕ) (h : z < trip_count w) where
    abbrev trip : Trip
    trip = get_or (timetable_of w).trips z []

    trip_length : start_at w z + length trip ≡ start_at w (z + 1)
    trip_length =
        omega (arith, ap length (trip_is w z [] h), trip_long w z, trip_stops_lem w yes z h)

    stop_there : (x : ℕ) → x < length trip → get_or trip x no_stop ≡ stop_at w (start_at w z + x)
    stop_there x g =
        ap (λ l. get_or l x no_stop) (trip_is w z [] h) ∙ stop_is w z x no_stop (omega (arith, g, trip_length))

    ride_points_lem : (x n : ℕ) → x + n ≤ length trip → ride_points trip x (x + n) ≡ ridden w (start_at w z + x) n
    unfolding ridden
    ride_points_lem x zero g =
        let e : x + 0 ≡ x = omega arith in
        let t = points_split trip x x x (omega arith) (omega arith) in
        omega (arith, t, ap (ride_points trip x) e)
    ride_points_lem x (suc n) g =
        let e : x + suc n ≡ suc (x + n) = omega arith in
        let f : start_at w z + x + n ≡ start_at w z + (x + n) = omega arith in
        let m = points_more trip x (x + n) (omega arith) (omega arith) in
        let s = ap (λ s. s.points) (stop_there (x + n) (omega arith)) in
        let k = ridden_more w (start_at w z + x) n in
        let i = ap (points w) f in
        let q = ride_points_lem x n (omega arith) in
        omega (arith, m, s, k, i, q, ap (ride_points trip x) e)

    ride_there : (x n : ℕ) → 1 ≤ n → x + n < length trip → T (may_board (stop_at w (start_at w z + x)))
        → Alights w (start_at w z + x + n)
        → SameRide w (ride_in (timetable_of w) z x (x + n)) (start_at w z + x) n
    ride_there x n o g b a =
        let from = stop_there x (omega arith) in
        let e : start_at w z + (x + n) ≡ start_at w z + x + n = omega arith in
        let to = stop_there (x + n) g ∙ ap (stop_at w) e in
        record {
          listed =
              rides_in (timetable_of w) z x (x + n) (omega (arith, length_trips w)) (omega arith) g
              (board_alike _ _ (ap (λ s. s.mark) (sym from)) b) (alight_alike _ _ (ap (λ s. s.mark) (sym to)) a);
          some = o;
          rides =
              λ k i.
              record {
                trip = z;
                listed = h;
                begun = omega arith;
                inside = omega (arith, trip_length);
              };
          boards = b;
          alights = a;
          from = ap (λ s. s.station) from;
          to = ap (λ s. s.station) to;
          leaves = ap (λ s. s.depart) from;
          comes = ap (λ s. s.arrive) to;
          costs = ride_points_lem x n (omega arith);
        }

  -- who boards at a stop and rides on takes a ride
  pub ride_of_lem : (i n : ℕ) → 1 ≤ n → Ridden w i n → T (may_board (stop_at w i)) → Alights w (i + n) → RideOf w i n
  ride_of_lem i n o r boards alights =
      let g = ridden_goes w i n o r in
      let z = g.trip in
      let x = i - start_at w z in
      let b = g.begun in
      let e : start_at w z + x ≡ i = omega arith in
      let end = stays_inside n i z g.listed b (omega (arith, g.inside)) r in
      record {
        ride = ride_in (timetable_of w) z x (x + n);
        same =
            subst
            (λ j. SameRide w (ride_in (timetable_of w) z x (x + n)) j n)
            e
            (ride_there z g.listed x n o (omega (arith, end, trip_length z g.listed))
            (subst (λ j. T (may_board (stop_at w j))) (sym e) boards)
            (subst (λ j. Alights w (j + n)) (sym e) alights));
      }

  -- each ride is taken so
  pub stops_of_lem : (r : Ride) → r ∈ (net_of w).rides → StopsOf w r
  stops_of_lem r h =
      let k = rides_out (timetable_of w) r h in
      let z = k.z in
      let l = k.later in
      let there : z < trip_count w = omega (arith, length_trips w, k.listed) in
      let m = k.y - suc k.x in
      let e : k.x + suc m ≡ k.y = omega arith in
      let at : start_at w z + k.y ≡ start_at w z + k.x + suc m = omega arith in
      record {
        i = start_at w z + k.x;
        m = m;
        same =
            subst
            (λ r. SameRide w r (start_at w z + k.x) (suc m))
            (ap (ride_in (timetable_of w) z k.x) e ∙ k.is)
            (ride_there z there k.x (suc m) (omega arith) (omega (arith, k.inside))
            (board_alike _ _ (ap (λ s. s.mark) (stop_there z there k.x (omega (arith, k.inside)))) k.boards)
            (alight_alike _ _ (ap (λ s. s.mark) (stop_there z there k.y k.inside ∙ ap (stop_at w) at))
            k.alights));
      }

  -- ---- changes
  pub spelled_sound : Sound (net_of w)
  spelled_sound = sound (timetable_of w) (subst T (sym (spelled_valid w yes)) tt)

  -- who came by a ride to stop j and changes by x can board at stop g
  pub catches_of : (r : Ride) (x : Change) (j g : ℕ) → Changes (net_of w) r x → r.to ≡ station w j
      → r.arrive ≡ arrive w j → Alights w j → Boards w g → station w g ≡ x.to → ready r x ≤ depart w g
      → CatchesBy w x j g
  catches_of r x j g k to comes alights boards there timely =
      record {
        listed = k.listed;
        alights = alights;
        boards = boards;
        from = sym (k.here ∙ to);
        to = there;
        timely = omega (arith, timely, comes);
      }

  -- and the other way round
  pub changes_by : (r : Ride) (x : Change) (j g : ℕ) → CatchesBy w x j g → r.to ≡ station w j → Changes (net_of w) r x
  changes_by r x j g k to = record { listed = k.listed; here = sym k.from ∙ sym to }
