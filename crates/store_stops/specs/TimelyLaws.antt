-- A timetable with a yes to question 9 is timely. What its rules say of a trip holds of each two stops that stand one
-- behind the other in the words; and a stop belongs to one trip, since trips begin one behind the other.
use Rattle.std.specs.Prelude.{◌≡◌, true, ℕ, zero, suc, ◌+◌, ◌-◌, ◌≤◌, ◌<◌, T, length, get_or}
use Rattle.std.proofs.Common.{ap, ◌∙◌, arith}
use mathlib.Core.List.{List, [], ◌∷◌}
use Rattle.lists.specs.Tests.{T_left, T_right, reads}
use Rattle.timetable.specs.Timetable.{Stop, Trip, last_minute, listed, leaves, ends}
use Rattle.timetable.specs.Timetable.{follows, runs, valid_trip, valid}
use Rattle.timetable.specs.Words.{station_count, trip_count, stop_count, stop_at, start_at, trip_at, timetable_of}
use Rattle.timetable.specs.Words.{is_timetable}
use Rattle.timetable.specs.Check.{length_stations, length_trips}
use Rattle.timetable.specs.Access.{trip_is, trip_long, stop_is, spelled_valid, start_most, trip_stops_lem}
use Rattle.timetable.specs.Access.{stops_few}
use Rattle.connections.specs.Rides.{no_stop}
use Rattle.connections.proofs.Sound.{valid_trip_lem, trips_valid_lem}
use Rattle.store_stops.specs.Stopwise.{arrive, depart, stay, Goes}
use Rattle.store_stops.specs.Settled.{Timely}
use Rattle.store_stops.specs.Ways.{stay_way, good_way}

-- ---- two stops of a trip, one behind the other
record Leg (n : ℕ) (b s : Stop) : Type 0 where
  leaves_b : b.depart ≤ last_minute
  cheap : b.points ≤ 100
  first : 1 ≤ b.station
  last : b.station ≤ n
  forward : b.depart < s.arrive
  minute : s.arrive ≤ last_minute
  next_first : 1 ≤ s.station
  next_last : s.station ≤ n

leg : (n : ℕ) (b s : Stop) → T (listed n b) → T (leaves b) → T (follows n b s) → Leg n b s
unfolding listed leaves follows
leg n b s i l f =
    record {
      leaves_b = search reads;
      cheap = search reads;
      first = search reads;
      last = search reads;
      forward = search reads;
      minute = search reads;
      next_first = search reads;
      next_last = search reads;
    }

follows_listed : (n : ℕ) (b s : Stop) → T (follows n b s) → T (listed n s)
unfolding follows
follows_listed n b s t = search (T_left, T_right)

-- the stop behind b, and the stops behind that one
runs_follows : (n : ℕ) (b s : Stop) (l : List Stop) → T (runs n b (s ∷ l)) → T (follows n b s)
unfolding runs
runs_follows n b s [] t = search T_left
runs_follows n b s (u ∷ l) t = search T_left

runs_ends : (n : ℕ) (b s : Stop) → T (runs n b (s ∷ [])) → s.depart ≡ 0
unfolding runs ends
runs_ends n b s t = search reads

module _ (n : ℕ) (b s u : Stop) (l : List Stop) (t : T (runs n b (s ∷ u ∷ l))) where
  runs_waits : s.arrive ≤ s.depart
  unfolding runs
  runs_waits = search reads

  runs_leaves : T (leaves s)
  unfolding runs
  runs_leaves = search (T_left, T_right)

  runs_on : T (runs n s (u ∷ l))
  unfolding runs
  runs_on = search T_right

-- ---- place by place: l runs behind stop b
leg_at : (n : ℕ) (b : Stop) (l : List Stop) → T (listed n b) → T (leaves b) → T (runs n b l) → (p : ℕ) → p < length l
    → Leg n (get_or (b ∷ l) p no_stop) (get_or l p no_stop)
leg_at n b [] i o t p h = absurd (omega arith)
leg_at n b (s ∷ l) i o t zero h = leg n b s i o (runs_follows n b s l t)
leg_at n b (s ∷ []) i o t (suc p) h = absurd (omega arith)
leg_at n b (s ∷ u ∷ l) i o t (suc p) h =
    let f = runs_follows n b s (u ∷ l) t in
    leg_at n s (u ∷ l) (follows_listed n b s f) (runs_leaves n b s u l t) (runs_on n b s u l t) p (omega arith)

waits_at : (n : ℕ) (b : Stop) (l : List Stop) → T (runs n b l) → (p : ℕ) → suc p < length l
    → (get_or l p no_stop).arrive ≤ (get_or l p no_stop).depart
waits_at n b [] t p h = absurd (omega arith)
waits_at n b (s ∷ []) t p h = absurd (omega arith)
waits_at n b (s ∷ u ∷ l) t zero h = runs_waits n b s u l t
waits_at n b (s ∷ u ∷ l) t (suc p) h = waits_at n s (u ∷ l) (runs_on n b s u l t) p (omega arith)

ends_at : (n : ℕ) (b : Stop) (l : List Stop) → T (runs n b l) → (p : ℕ) → suc p ≡ length l
    → (get_or l p no_stop).depart ≡ 0
ends_at n b [] t p h = absurd (omega arith)
ends_at n b (s ∷ []) t zero h = runs_ends n b s t
ends_at n b (s ∷ []) t (suc p) h = absurd (omega arith)
ends_at n b (s ∷ u ∷ l) t zero h = absurd (omega arith)
ends_at n b (s ∷ u ∷ l) t (suc p) h = ends_at n s (u ∷ l) (runs_on n b s u l t) p (omega arith)

-- a whole trip
module _ (n : ℕ) where
  trip_leg : (l : Trip) → T (valid_trip n l) → (p : ℕ) → suc p < length l
      → Leg n (get_or l p no_stop) (get_or l (suc p) no_stop)
  unfolding valid_trip
  trip_leg [] t p h = absurd t
  trip_leg (b ∷ l) t p h =
      leg_at n b l (search (T_left, T_right)) (search (T_left, T_right)) (search T_right) p (omega arith)

  trip_waits : (l : Trip) → T (valid_trip n l) → (p : ℕ) → suc (suc p) < length l
      → (get_or l (suc p) no_stop).arrive ≤ (get_or l (suc p) no_stop).depart
  unfolding valid_trip
  trip_waits [] t p h = absurd t
  trip_waits (b ∷ l) t p h = waits_at n b l (search T_right) p (omega arith)

  trip_ends : (l : Trip) → T (valid_trip n l) → (p : ℕ) → suc (suc p) ≡ length l → (get_or l (suc p) no_stop).depart ≡ 0
  unfolding valid_trip
  trip_ends [] t p h = absurd t
  trip_ends (b ∷ l) t p h = ends_at n b l (search T_right) p (omega arith)

-- ---- words with a yes
module _ (w : List ℕ) (yes : is_timetable w ≡ true) where
  is_valid : T (valid (timetable_of w))
  is_valid = rw (spelled_valid w yes) tt

  -- trips begin one behind the other
  pub starts_rise : (a n : ℕ) → a + n ≤ trip_count w → start_at w a ≤ start_at w (a + n)
  starts_rise a zero h =
      let same : a + 0 ≡ a = omega arith in
      omega (arith, ap (start_at w) same)
  starts_rise a (suc n) h =
      let same : a + suc n ≡ a + n + 1 = omega arith in
      omega (arith, ap (start_at w) same, starts_rise a n (omega arith), trip_stops_lem w yes (a + n) (omega arith))

  -- so a trip ends before any later one begins
  pub ends_before : (a b : ℕ) → a < b → b ≤ trip_count w → start_at w (a + 1) ≤ start_at w b
  ends_before a b h g =
      let same : a + 1 + (b - (a + 1)) ≡ b = omega arith in
      omega (arith, ap (start_at w) same, starts_rise (a + 1) (b - (a + 1)) (omega arith))

  trip_good : (z : ℕ) → z < trip_count w → T (valid_trip (station_count w) (trip_at w z))
  trip_good z h =
      let t = timetable_of w in
      let long : z < length t.trips = omega (arith, length_trips w) in
      let one = valid_trip_lem (length t.stations) t.trips (trips_valid_lem t is_valid) z long in
      rw (length_stations w, trip_is w z [] h) at one

  -- the trip of a stop that is left again, and the stop's place on it
  module _ (i : ℕ) (g : Goes w i) where
    abbrev z : ℕ
    z = g.trip

    abbrev place : ℕ
    place = i - start_at w z

    stop_here : get_or (trip_at w z) place no_stop ≡ stop_at w i
    stop_here =
        let same : start_at w z + place ≡ i = omega (arith, g.begun) in
        stop_is w z place no_stop (omega (arith, g.begun, g.inside)) ∙ ap (stop_at w) same

    stop_next : get_or (trip_at w z) (suc place) no_stop ≡ stop_at w (suc i)
    stop_next =
        let same : start_at w z + suc place ≡ suc i = omega (arith, g.begun) in
        stop_is w z (suc place) no_stop (omega (arith, g.begun, g.inside)) ∙ ap (stop_at w) same

    leg_here : Leg (station_count w) (stop_at w i) (stop_at w (suc i))
    leg_here =
        let l = trip_at w z in
        let long : suc place < length l = omega (arith, trip_long w z, g.begun, g.inside) in
        let r = trip_leg (station_count w) l (trip_good z g.listed) place long in
        rw (stop_here, stop_next) at r

    waits_here : suc (suc i) < start_at w (z + 1) → arrive w (suc i) ≤ depart w (suc i)
    waits_here h =
        let l = trip_at w z in
        let long : suc (suc place) < length l = omega (arith, trip_long w z, g.begun) in
        let r = trip_waits (station_count w) l (trip_good z g.listed) place long in
        rw stop_next at r

    ends_here : suc (suc i) ≡ start_at w (z + 1) → depart w (suc i) ≡ 0
    ends_here h =
        let l = trip_at w z in
        let long : suc (suc place) ≡ length l = omega (arith, trip_long w z, g.begun) in
        let r = trip_ends (station_count w) l (trip_good z g.listed) place long in
        rw stop_next at r

    -- the next stop, if left again, is left by the same trip
    no_later : (h : Goes w (suc i)) → ¬ (z < h.trip)
    no_later h k = omega (arith, ends_before z h.trip k (omega (arith, h.listed)), h.begun, g.inside)

    no_earlier : (h : Goes w (suc i)) → ¬ (h.trip < z)
    no_earlier h k = omega (arith, ends_before h.trip z k (omega (arith, g.listed)), h.inside, g.begun)

    same_trip_lem : Goes w (suc i) → suc (suc i) < start_at w (z + 1)
    same_trip_lem h =
        let one : h.trip ≡ z = omega (arith, no_later h, no_earlier h) in
        omega (arith, h.inside, ap (λ k. start_at w (k + 1)) one)

    -- the last stop has no departure
    goes_behind : 1 ≤ depart w (suc i) → suc (suc i) < start_at w (z + 1)
    goes_behind h =
        let other : ¬ (suc (suc i) ≡ start_at w (z + 1)) = (λ e. omega (arith, ends_here e)) in
        omega (arith, other, g.inside)

    goes_on : 1 ≤ depart w (suc i) → Goes w (suc i)
    goes_on h =
        record {
          trip = z;
          listed = g.listed;
          begun = omega (arith, g.begun);
          inside = goes_behind h;
        }

    few : suc i < stop_count w
    few = omega (arith, g.inside, start_most w yes (z + 1) (omega (arith, g.listed)))

  pub timely : Timely w
  timely =
      record {
        stops = stops_few w yes;
        few = few;
        before = λ i g. (leg_here i g).forward;
        waits = λ i g h. waits_here i g (same_trip_lem i g h);
        minute = λ i g. (leg_here i g).minute;
        leaves = λ i g. (leg_here i g).leaves_b;
        cheap = λ i g. (leg_here i g).cheap;
        first = λ i g. (leg_here i g).first;
        listed = λ i g. (leg_here i g).last;
        next_first = λ i g. (leg_here i g).next_first;
        next_listed = λ i g. (leg_here i g).next_last;
        most = λ c h k. (good_way w yes (stay w c) (stay_way w yes c h k)).points_most;
        way_most = λ way m. (good_way w yes way m).points_most;
        goes_on = goes_on;
        ends = λ i g h. omega (arith, (leg_here i g).forward, waits_here i g (same_trip_lem i g h));
      }
