-- An accepted timetable gives a sound net: rides take time and end within the two days, changes join listed stations
-- and cost something. These few facts are all that the theory of connections asks of a timetable.
use Rattle.std.specs.Prelude.{◌≡◌, ◌⊎◌, List, [], ◌∷◌, ℕ, zero, suc, ◌+◌, ◌*◌, ◌≤◌, ◌<◌, T, length, get_or}
use Rattle.std.proofs.Common.{sym, subst, inl, inr, arith}
use Rattle.timetable.specs.Timetable.{Station, Walk, Stop, Trip, Timetable, last_minute, stations_most, valid_station}
use Rattle.timetable.specs.Timetable.{valid_walk, listed, leaves, follows, runs, valid_trip, valid_stations}
use Rattle.timetable.specs.Timetable.{valid_walks}
use Rattle.timetable.specs.Timetable.{valid_trips, counted, valid}
use Rattle.lists.specs.Lists.{◌∈◌}
use Rattle.lists.specs.Tests.{T_left, T_right, reads}
use Rattle.lists.specs.Members.{none, cons_cases}
use Rattle.connections.specs.Rides.{Ride, no_stop, ride_points}
use Rattle.connections.specs.Connections.{Change, Net, net, no_station, change_at, on_foot}
use Rattle.connections.proofs.RideLaws.{rides_out, Own, changes_out, points_none, points_first, points_next}

pub record Sound (n : Net) : Type 0 where
  -- "arrival after the previous departure"
  pub forward : (r : Ride) → r ∈ n.rides → r.depart < r.arrive
  -- "times 0 to 2,879"
  pub bounded : (r : Ride) → r ∈ n.rides → r.arrive ≤ last_minute
  -- "station listed"
  pub arrives : (r : Ride) → r ∈ n.rides → (1 ≤ r.to) × (r.to ≤ n.stations)
  -- "change penalty 1 to 1,000", and a walk's likewise: a change costs something
  pub toll : (w : Change) → w ∈ n.changes → 1 ≤ w.points
  -- a change joins listed stations: "unlisted stations 6"
  pub alights : (w : Change) → w ∈ n.changes → (1 ≤ w.from) × (w.from ≤ n.stations)
  pub boards : (w : Change) → w ∈ n.changes → (1 ≤ w.to) × (w.to ≤ n.stations)
  -- "At most 64 stations"
  pub few : n.stations ≤ stations_most

-- What the rules for stops come to for the ride from stop b to a later stop s of a trip, with its points. Each minute
-- of a ride costs 100 points at the most, which keeps penalties within 32 bits.
record Reached (n : ℕ) (b s : Stop) (points : ℕ) : Type 0 where
  forward : b.depart < s.arrive
  bounded : s.arrive ≤ last_minute
  first : 1 ≤ s.station
  last : s.station ≤ n
  cheap : points + 100 * b.depart ≤ 100 * s.arrive

record Follows (n : ℕ) (b s : Stop) : Type 0 where
  forward : b.depart < s.arrive
  bounded : s.arrive ≤ last_minute
  first : 1 ≤ s.station
  last : s.station ≤ n

follows_out : (n : ℕ) (b s : Stop) → T (follows n b s) → Follows n b s
unfolding follows listed
follows_out n b s t =
    record { forward = search reads; bounded = search reads; first = search reads; last = search reads }

-- a stop that the trip leaves again, and the rest of the trip
record Passed (n : ℕ) (b s : Stop) (l : List Stop) : Type 0 where
  follows_b : Follows n b s
  waits : s.arrive ≤ s.depart
  cheap : s.points ≤ 100
  rest : T (runs n s l)

passed : (n : ℕ) (b s u : Stop) (l : List Stop) → T (runs n b (s ∷ u ∷ l)) → Passed n b s (u ∷ l)
unfolding runs leaves
passed n b s u l t =
    record {
      follows_b = follows_out n b s (search T_left);
      waits = search reads;
      cheap = search reads;
      rest = search T_right;
    }

ended : (n : ℕ) (b s : Stop) → T (runs n b (s ∷ [])) → Follows n b s
unfolding runs
ended n b s t = follows_out n b s (search T_left)

-- from stop b, which l runs behind, to the stop at place y of l
reach : (n : ℕ) (b : Stop) (l : List Stop) → b.points ≤ 100 → T (runs n b l) → (y : ℕ) → y < length l
    → Reached n b (get_or l y no_stop) (ride_points (b ∷ l) 0 (suc y))
reach n b [] h t y g = absurd (omega arith)
reach n b (s ∷ []) h t zero g =
    let f = ended n b s t in
    let p = points_first b (s ∷ []) 0 in
    let q = points_none (s ∷ []) 0 in
    omega arith
reach n b (s ∷ []) h t (suc y) g = absurd (omega arith)
reach n b (s ∷ u ∷ l) h t zero g =
    let f = (passed n b s u l t).follows_b in
    let p = points_first b (s ∷ u ∷ l) 0 in
    let q = points_none (s ∷ u ∷ l) 0 in
    omega arith
reach n b (s ∷ u ∷ l) h t (suc y) g =
    let f = passed n b s u l t in
    let p = points_first b (s ∷ u ∷ l) (suc y) in
    let r = reach n s (u ∷ l) f.cheap f.rest y (omega arith) in
    omega arith

-- from the stop at place x of a trip to the stop at place y
reach_at_lem : (n : ℕ) (b : Stop) (l : List Stop) → b.points ≤ 100 → T (runs n b l)
    → (x y : ℕ) → x < y → y < suc (length l)
    → Reached n (get_or (b ∷ l) x no_stop) (get_or (b ∷ l) y no_stop) (ride_points (b ∷ l) x y)
reach_at_lem n b l h t x zero g i = absurd (omega arith)
reach_at_lem n b l h t zero (suc y) g i = reach n b l h t y (omega arith)
reach_at_lem n b [] h t (suc x) (suc y) g i = absurd (omega arith)
reach_at_lem n b (s ∷ []) h t (suc x) (suc y) g i = absurd (omega arith)
reach_at_lem n b (s ∷ u ∷ l) h t (suc x) (suc y) g i =
    let f = passed n b s u l t in
    subst
    (λ p. Reached n (get_or (s ∷ u ∷ l) x no_stop) (get_or (s ∷ u ∷ l) y no_stop) p)
    (sym (points_next b (s ∷ u ∷ l) x y))
    (reach_at_lem n s (u ∷ l) f.cheap f.rest x y (omega arith) (omega arith))

reach_trip : (n : ℕ) (l : Trip) → T (valid_trip n l) → (x y : ℕ) → x < y → y < length l
    → Reached n (get_or l x no_stop) (get_or l y no_stop) (ride_points l x y)
unfolding valid_trip leaves
reach_trip n [] t x y h g = absurd t
reach_trip n (b ∷ l) t x y h g = reach_at_lem n b l (search reads) (search T_right) x y h g

-- a trip arrives after it departed from any stop before
pub trip_forward : (n : ℕ) (l : Trip) → T (valid_trip n l) → (x y : ℕ) → x < y → y < length l
    → (get_or l x no_stop).depart < (get_or l y no_stop).arrive
trip_forward n l t x y h g = (reach_trip n l t x y h g).forward

pub valid_trip_lem : (n : ℕ) (l : List Trip) → T (valid_trips n l) → (z : ℕ) → z < length l → T
    (valid_trip n (get_or l z []))
unfolding valid_trips
valid_trip_lem n [] t z h = absurd (omega arith)
valid_trip_lem n (k ∷ l) t zero h = search T_left
valid_trip_lem n (k ∷ l) t (suc z) h = valid_trip_lem n l (search T_right) z (omega arith)

pub valid_station_lem : (l : List Station) → T (valid_stations l) → (z : ℕ) → z < length l
    → T (valid_station (get_or l z no_station))
unfolding valid_stations
valid_station_lem [] t z h = absurd (omega arith)
valid_station_lem (s ∷ l) t zero h = search T_left
valid_station_lem (s ∷ l) t (suc z) h = valid_station_lem l (search T_right) z (omega arith)

pub valid_walk_lem : (n : ℕ) (l : List Walk) → T (valid_walks n l) → (v : Walk) → v ∈ l → T (valid_walk n v)
unfolding valid_walks
valid_walk_lem n [] t v m = none m
valid_walk_lem n (w ∷ []) t v m = cons_cases m (λ e. subst (λ x. T (valid_walk n x)) (sym e) t) none
valid_walk_lem n (w ∷ u ∷ l) t v m =
    cons_cases
    m
    (λ e. subst (λ x. T (valid_walk n x)) (sym e) (search T_left))
    (valid_walk_lem n (u ∷ l) (search T_right) v)

-- what a change takes and costs, and between which of n stations it is
pub record Priced (n : ℕ) (w : Change) : Type 0 where
  pub minutes_most : w.minutes ≤ 240
  pub points_least : 1 ≤ w.points
  pub points_most : w.points ≤ 1000
  pub from_first : 1 ≤ w.from
  pub from_last : w.from ≤ n
  pub to_first : 1 ≤ w.to
  pub to_last : w.to ≤ n

priced_station : (l : List Station) (z : ℕ) → z < length l → T (valid_station (get_or l z no_station))
    → Priced (length l) (change_at l z)
unfolding valid_station
priced_station l z h t =
    record {
      minutes_most = search reads;
      points_least = search reads;
      points_most = search reads;
      from_first = omega arith;
      from_last = omega arith;
      to_first = omega arith;
      to_last = omega arith;
    }

priced_walk : (n : ℕ) (v : Walk) → T (valid_walk n v) → Priced n (on_foot v)
unfolding valid_walk
priced_walk n v t =
    record {
      minutes_most = let h : v.minutes ≤ 60 = search reads depth 10 in omega arith;
      points_least = search reads depth 10;
      points_most = search reads depth 10;
      from_first = search reads depth 10;
      from_last = search reads depth 10;
      to_first = search reads depth 10;
      to_last = search reads depth 10;
    }

module _ (t : Timetable) (v : T (valid t)) where
  pub trips_valid_lem : T (valid_trips (length t.stations) t.trips)
  unfolding valid
  trips_valid_lem = search T_right

  pub stations_valid : T (valid_stations t.stations)
  unfolding valid
  stations_valid = search (T_left, T_right)

  pub walks_valid : T (valid_walks (length t.stations) t.walks)
  unfolding valid
  walks_valid = search (T_left, T_right)

  pub stations_few : length t.stations ≤ stations_most
  unfolding valid counted
  stations_few = search reads depth 9

  -- whether they apply or not
  pub station_priced : (z : ℕ) → z < length t.stations → Priced (length t.stations) (change_at t.stations z)
  station_priced z h =
      priced_station t.stations z h (valid_station_lem t.stations stations_valid z h)

  pub change_priced : (w : Change) → w ∈ (net t).changes → Priced (length t.stations) w
  change_priced w m = go (changes_out t w m)
    where
      n : ℕ
      n = length t.stations

      go : ((z : ℕ) × Own t z × (change_at t.stations z ≡ w)) ⊎ ((v : Walk) × (v ∈ t.walks) × (on_foot v ≡ w))
          → Priced n w
      go (inl r) = subst (Priced n) r.2 (station_priced r.0 r.1.inside)
      go (inr r) = subst (Priced n) r.2 (priced_walk n r.0 (valid_walk_lem n t.walks walks_valid r.0 r.1))

  record Good (r : Ride) : Type 0 where
    forward : r.depart < r.arrive
    bounded : r.arrive ≤ last_minute
    first : 1 ≤ r.to
    last : r.to ≤ length t.stations
    cheap : r.points + 100 * r.depart ≤ 100 * r.arrive

  ride_good : (r : Ride) → r ∈ (net t).rides → Good r
  ride_good r m =
      let k = rides_out t r m in
      let l = get_or t.trips k.z [] in
      let s = length t.stations in
      let v = valid_trip_lem s t.trips trips_valid_lem k.z k.listed in
      let g = reach_trip s l v k.x k.y k.later k.inside in
      subst
      Good
      k.is
      (record { forward = g.forward; bounded = g.bounded; first = g.first; last = g.last; cheap = g.cheap })

  pub sound : Sound (net t)
  sound =
      record {
        forward = λ r m. (ride_good r m).forward;
        bounded = λ r m. (ride_good r m).bounded;
        arrives = λ r m. ((ride_good r m).first, (ride_good r m).last);
        toll = λ w m. (change_priced w m).points_least;
        alights = λ w m. ((change_priced w m).from_first, (change_priced w m).from_last);
        boards = λ w m. ((change_priced w m).to_first, (change_priced w m).to_last);
        few = stations_few;
      }

  -- a ride costs at most 100 points for each of its minutes
  pub ride_cheap : (r : Ride) → r ∈ (net t).rides → r.points + 100 * r.depart ≤ 100 * r.arrive
  ride_cheap r m = (ride_good r m).cheap
