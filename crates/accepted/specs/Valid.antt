-- What the tests of a valid timetable say, as facts: the ranges and counts that document 01 sets, and how the stops of
-- a trip follow one another.
use Rattle.std.specs.Prelude.{◌≡◌, refl, true, false, ◌&&◌, List, [], ◌∷◌, ℕ, ◌≤◌, ◌<◌, leb, eqb, length}
use Rattle.std.proofs.Common.{sym, ◌∙◌, arith, leb-true, ltb-true, eqb-true, le-leb, eq-eqb}
use Rattle.std.proofs.lemmas.Bool.{false≢true, not-true}
use Rattle.lists.specs.Tests.{and_left, and_right}
use Rattle.timetable.specs.Timetable.{Station, Walk, Stop, Timetable, stops_of, stations_most, walks_most, trips_most}
use Rattle.timetable.specs.Timetable.{stops_most, valid_walk, valid_walks}
use Rattle.timetable.specs.Timetable.{last_minute, valid_station, listed, leaves, ends, follows, runs, valid_trip}
use Rattle.timetable.specs.Timetable.{valid_stations, valid_trips, counted, climb, numbered, valid}

-- ---- the facts
pub record ValidStation (s : Station) : Type 0 where
  pub minutes : s.minutes ≤ 240
  pub least : 1 ≤ s.points
  pub points : s.points ≤ 1000

pub record ValidWalk (n : ℕ) (w : Walk) : Type 0 where
  pub from_least : 1 ≤ w.from
  pub from_most : w.from ≤ n
  pub to_least : 1 ≤ w.to
  pub to_most : w.to ≤ n
  pub minutes_least : 1 ≤ w.minutes
  pub minutes_most : w.minutes ≤ 60
  pub points_least : 1 ≤ w.points
  pub points_most : w.points ≤ 1000

pub record Listed (n : ℕ) (s : Stop) : Type 0 where
  pub least : 1 ≤ s.station
  pub most : s.station ≤ n

pub record Leaves (s : Stop) : Type 0 where
  pub depart : s.depart ≤ last_minute
  pub points : s.points ≤ 100
  pub mark : s.mark ≤ 2

pub record Ends (s : Stop) : Type 0 where
  pub depart : s.depart ≡ 0
  pub points : s.points ≡ 0
  pub mark : s.mark ≤ 2

pub record Follows (n : ℕ) (b s : Stop) : Type 0 where
  pub station : listed n s ≡ true
  pub unlike : eqb s.station b.station ≡ false
  pub later : b.depart < s.arrive
  pub arrive : s.arrive ≤ last_minute

-- a stop between the first and the last, and the stops after it
pub record RunsOn (n : ℕ) (b s : Stop) (l : List Stop) : Type 0 where
  pub follows : follows n b s ≡ true
  pub waits : s.arrive ≤ s.depart
  pub leaves : leaves s ≡ true
  pub on : runs n s l ≡ true

pub record Begins (n : ℕ) (b : Stop) (l : List Stop) : Type 0 where
  pub station : listed n b ≡ true
  pub arrive : b.arrive ≡ 0
  pub leaves : leaves b ≡ true
  pub on : runs n b l ≡ true

pub record Valid (t : Timetable) : Type 0 where
  pub least : 1 ≤ length t.stations
  pub stations : length t.stations ≤ stations_most
  pub walks : length t.walks ≤ walks_most
  pub trips : length t.trips ≤ trips_most
  pub stops : length (stops_of t.trips) ≤ stops_most
  pub numbers : length t.numbers ≡ length t.trips
  pub climbs : climb 0 t.numbers ≡ true
  pub each_station : valid_stations t.stations ≡ true
  pub each_walk : valid_walks (length t.stations) t.walks ≡ true
  pub each_trip : valid_trips (length t.stations) t.trips ≡ true

-- ---- from the tests to the facts
pub valid_station_lem : (s : Station) → valid_station s ≡ true → ValidStation s
unfolding valid_station
valid_station_lem s v = search (and_left, and_right, leb-true)

pub valid_walk_lem : (n : ℕ) (w : Walk) → valid_walk n w ≡ true → ValidWalk n w
unfolding valid_walk
valid_walk_lem n w v = search (and_left, and_right, leb-true) depth 9

pub walk_valid : (n : ℕ) (w : Walk) → ValidWalk n w → valid_walk n w ≡ true
unfolding valid_walk
walk_valid n w h =
    simp (
      le-leb 1 w.from h.from_least,
      le-leb w.from n h.from_most,
      le-leb 1 w.to h.to_least,
      le-leb w.to n h.to_most,
      le-leb 1 w.minutes h.minutes_least,
      le-leb w.minutes 60 h.minutes_most,
      le-leb 1 w.points h.points_least,
      le-leb w.points 1000 h.points_most,
    )

pub is_listed : (n : ℕ) (s : Stop) → listed n s ≡ true → Listed n s
unfolding listed
is_listed n s v = search (and_left, and_right, leb-true)

pub it_leaves : (s : Stop) → leaves s ≡ true → Leaves s
unfolding leaves
it_leaves s v = search (and_left, and_right, leb-true)

pub it_ends : (s : Stop) → ends s ≡ true → Ends s
unfolding ends
it_ends s v = search (and_left, and_right, eqb-true, leb-true)

pub it_follows : (n : ℕ) (b s : Stop) → follows n b s ≡ true → Follows n b s
unfolding follows
it_follows n b s v =
    record {
      station = search (and_left, and_right);
      unlike = not-true _ (search (and_left, and_right));
      later = search (and_left, and_right, ltb-true);
      arrive = search (and_left, and_right, leb-true);
    }

pub is_valid : (t : Timetable) → valid t ≡ true → Valid t
unfolding valid counted numbered
is_valid t v = search (and_left, and_right, leb-true, eqb-true) depth 10

-- and back
pub valid_is : (t : Timetable) → Valid t → valid t ≡ true
unfolding valid counted numbered
valid_is t h =
    simp (
      le-leb 1 (length t.stations) h.least,
      le-leb (length t.stations) stations_most h.stations,
      le-leb (length t.walks) walks_most h.walks,
      le-leb (length t.trips) trips_most h.trips,
      le-leb (length (stops_of t.trips)) stops_most h.stops,
      eq-eqb (length t.numbers) (length t.trips) h.numbers,
      h.climbs,
      h.each_station,
      h.each_walk,
      h.each_trip,
    )

-- ---- a trip, stop by stop
pub runs_none : (n : ℕ) (b : Stop) → runs n b [] ≡ true → ⊥
unfolding runs
runs_none n b v = false≢true v

pub runs_one : (n : ℕ) (b s : Stop) → runs n b (s ∷ []) ≡ (follows n b s && ends s)
unfolding runs
runs_one n b s = refl

pub runs_last : (n : ℕ) (b s : Stop) → runs n b (s ∷ []) ≡ true → (follows n b s ≡ true) × (ends s ≡ true)
unfolding runs
runs_last n b s v = search (and_left, and_right)

pub runs_more : (n : ℕ) (b s u : Stop) (l : List Stop)
    → runs n b (s ∷ u ∷ l) ≡ (follows n b s && leb s.arrive s.depart && leaves s && runs n s (u ∷ l))
unfolding runs
runs_more n b s u l = refl

pub runs_on : (n : ℕ) (b s u : Stop) (l : List Stop) → runs n b (s ∷ u ∷ l) ≡ true → RunsOn n b s (u ∷ l)
runs_on n b s u l v =
    let w = sym (runs_more n b s u l) ∙ v in
    search (and_left, and_right, leb-true)

pub begins : (n : ℕ) (b : Stop) (l : List Stop) → valid_trip n (b ∷ l) ≡ true → Begins n b l
unfolding valid_trip
begins n b l v = search (and_left, and_right, eqb-true)

pub trip_not_empty : (n : ℕ) → valid_trip n [] ≡ true → ⊥
unfolding valid_trip
trip_not_empty n v = false≢true v

-- ---- what every stop keeps to, wherever it stands in its trip
pub record StopRanges (n : ℕ) (s : Stop) : Type 0 where
  pub station : s.station ≤ n
  pub arrive : s.arrive ≤ last_minute
  pub depart : s.depart ≤ last_minute
  pub points : s.points ≤ 100
  pub mark : s.mark ≤ 2

pub first_ranges : (n : ℕ) (b : Stop) (l : List Stop) → Begins n b l → StopRanges n b
first_ranges n b l v = omega (arith, is_listed n b v.station, it_leaves b v.leaves)

module _ (n : ℕ) (b s : Stop) (f : follows n b s ≡ true) where
  pub inner_ranges : leaves s ≡ true → StopRanges n s
  inner_ranges g =
      let came = it_follows n b s f in
      omega (arith, is_listed n s came.station, it_leaves s g)

  pub last_ranges : ends s ≡ true → StopRanges n s
  last_ranges e =
      let came = it_follows n b s f in
      omega (arith, is_listed n s came.station, it_ends s e)
