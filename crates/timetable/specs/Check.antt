-- How the code decides question 9, part by part. No reader of the promise needs this file: `decided` shows that the
-- parts come to `is_timetable`.
use Rattle.std.specs.Prelude.{◌≡◌, Bool, ◌&&◌, List, [], ◌∷◌, map, eqb, length}
use Rattle.std.proofs.Math.Path.{sym}
use Rattle.std.proofs.Common.{ap, ◌∙◌, length-append}
use Rattle.std.proofs.Math.Bool.{true}
use Prim.Native.Nat.{ℕ, zero, suc, ◌+◌, ◌-◌, ◌≤◌, ◌<◌}
use Rattle.std.proofs.Math.Nat.{sub-zero}
use Rattle.std.proofs.Math.Numerals.{add-one}
use native.Mathlib.Omega.{arith}
use borrow.Author.Tests.{leb-true, eqb-true, eq-eqb}
use Rattle.std.proofs.Math.Dec.{leb}
use Rattle.std.proofs.Math.ListN.{length-map}
use Rattle.lists.specs.Lists.{range, same}
use Rattle.lists.specs.Ranges.{length_range}
use Rattle.lists.specs.Tests.{and_left, and_right, same_tests}
use Rattle.timetable.specs.Timetable.{
  Station,
  Walk,
  Stop,
  Trip,
  stops_of,
  valid_stations,
  valid_walks,
  valid_trips,
  numbered,
  counted,
  climb,
  valid,
}
use Rattle.timetable.specs.Words.{
  count_to,
  foot_words,
  station_count,
  trip_count,
  stop_count,
  station_at,
  stop_at,
  start_at,
  trip_at,
  number_at,
  walks_to,
  walk_count,
  walk_at,
  timetable_of,
  rise,
  chained,
  footed,
  is_timetable,
}

-- what f gives for the numbers from i up to n
unfoldable pub between : {A : Type 0} → (ℕ → A) → ℕ → ℕ → List A
between f i n = map f (range i (n - i))

-- the stations, stops, trips, starts, numbers and walks from one place up to another
abbrev pub stations_at : List ℕ → ℕ → ℕ → List Station
stations_at w = between (station_at w)

abbrev pub stops_at : List ℕ → ℕ → ℕ → List Stop
stops_at w = between (stop_at w)

abbrev pub trips_at : List ℕ → ℕ → ℕ → List Trip
trips_at w = between (trip_at w)

abbrev pub starts_at : List ℕ → ℕ → ℕ → List ℕ
starts_at w = between (start_at w)

abbrev pub numbers_at : List ℕ → ℕ → ℕ → List ℕ
numbers_at w = between (number_at w)

abbrev pub walks_at : List ℕ → ℕ → ℕ → List Walk
walks_at w = between (walk_at w)

-- the counts of walks from station y on, before station n, are those of the walks
unfoldable pub footed_from : List ℕ → List Walk → (y n : ℕ) → Bool
footed_from w l y n = same (between (walks_to w) y n) (between (count_to l) y n)

-- the trips from number k on, the first of which begins at stop `first`
unfoldable pub trips_test : List ℕ → (n stops k first trips : ℕ) → Bool
trips_test w n stops k first trips =
    rise first (starts_at w (k + 1) (trips + 1)) stops && valid_trips n (trips_at w k trips)

-- ---- one more at a time
module _ {A : Type 0} (f : ℕ → A) (i n : ℕ) where
  pub between_more : i < n → between f i n ≡ f i ∷ between f (i + 1) n
  unfolding between
  between_more h =
      let some : n - i ≡ suc (n - (i + 1)) = omega arith in
      rw (some, add-one i)

  pub between_none : n ≤ i → between f i n ≡ []
  unfolding between
  between_none h =
      let none : n - i ≡ 0 = omega arith in
      rw none

-- ---- the parts come to question 9
pub length_trip : (w : List ℕ) (k : ℕ) → length (trip_at w k) ≡ start_at w (suc k) - start_at w k
unfolding trip_at
length_trip w k =
    length-map (range (start_at w k) (start_at w (k + 1) - start_at w k)) (stop_at w)
    ∙ length_range (start_at w k) (start_at w (k + 1) - start_at w k)
    ∙ ap (λ j. start_at w j - start_at w k) (add-one k)

-- starts that rise to n are at most n
pub rise_most : (b : ℕ) (l : List ℕ) (n : ℕ) → rise b l n ≡ true → b ≤ n
unfolding rise
rise_most b [] n e = omega (arith, eqb-true b n e)
rise_most b (c ∷ l) n e =
    let here = leb-true b c (and_left (leb b c) (rise c l n) e) in
    let later = rise_most c l n (and_right (leb b c) (rise c l n) e) in
    omega (arith, here, later)

-- trips that stand one after the other have as many stops as lie between the first's beginning and the last's end
stops_between : (w : List ℕ) (k m n : ℕ) → rise (start_at w k) (map (start_at w) (range (suc k) m)) n ≡ true
    → start_at w k + length (stops_of (map (trip_at w) (range k m))) ≡ n
unfolding rise
stops_between w k zero n e = omega (arith, eqb-true (start_at w k) n e)
stops_between w k (suc m) n e =
    let up : Bool = leb (start_at w k) (start_at w (suc k)) in
    let rest : Bool = rise (start_at w (suc k)) (map (start_at w) (range (suc (suc k)) m)) n in
    let later = stops_between w (suc k) m n (and_right up rest e) in
    simp length-append
    (omega (arith, later, length_trip w k, leb-true (start_at w k) (start_at w (suc k)) (and_left up rest e)))

module _ (w : List ℕ) where
  abbrev pub stations_test : Bool
  stations_test = valid_stations (stations_at w 0 (station_count w))

  abbrev pub all_trips_test : Bool
  all_trips_test = trips_test w (station_count w) (stop_count w) 0 0 (trip_count w)

  abbrev pub headed : Bool
  headed =
      leb 1 (station_count w) && leb (station_count w) 64 && leb (trip_count w) 256 && leb (stop_count w) 2048

  abbrev pub numbers_test : Bool
  numbers_test = climb 0 (numbers_at w 0 (trip_count w))

  abbrev pub few_walks : Bool
  few_walks = leb (walk_count w) 256

  abbrev pub walks_test : Bool
  walks_test = valid_walks (station_count w) (walks_at w 0 (walk_count w))

  abbrev pub feet_test : Bool
  feet_test = footed_from w (walks_at w 0 (walk_count w)) 0 (station_count w + 1)

  abbrev pub decision : Bool
  decision =
      headed
      && eqb (start_at w 0) 0
      && numbers_test
      && stations_test
      && few_walks
      && walks_test
      && feet_test
      && all_trips_test

  pub length_stations : length (timetable_of w).stations ≡ station_count w
  unfolding timetable_of
  length_stations =
      length-map (range 0 (station_count w)) (station_at w) ∙ length_range 0 (station_count w)

  pub length_trips : length (timetable_of w).trips ≡ trip_count w
  unfolding timetable_of
  length_trips = length-map (range 0 (trip_count w)) (trip_at w) ∙ length_range 0 (trip_count w)

  abbrev pub zeroed : Bool
  zeroed = eqb (start_at w 0) 0

  abbrev pub rising : Bool
  rising = rise 0 (map (start_at w) (range 1 (trip_count w))) (stop_count w)

  pub length_stops : zeroed ≡ true → rising ≡ true → length (stops_of (timetable_of w).trips) ≡ stop_count w
  unfolding timetable_of
  length_stops z r =
      let start = eqb-true (start_at w 0) 0 z in
      omega (arith, start, stops_between w 0 (trip_count w) (stop_count w) (rw start r))

  pub walks_there : (timetable_of w).walks ≡ walks_at w 0 (walk_count w)
  unfolding timetable_of between
  walks_there = rw sub-zero

  pub length_walks : length (timetable_of w).walks ≡ walk_count w
  unfolding timetable_of
  length_walks = length-map (range 0 (walk_count w)) (walk_at w) ∙ length_range 0 (walk_count w)

  abbrev in_counts : Bool
  in_counts =
      leb 1 (station_count w)
      && leb (station_count w) 64
      && few_walks
      && leb (trip_count w) 256
      && leb (stop_count w) 2048

  is_counted : zeroed ≡ true → rising ≡ true → counted (timetable_of w) ≡ in_counts
  unfolding counted
  is_counted z r = rw (length_stations, length_walks, length_trips, length_stops z r)

  stations_same : valid_stations (timetable_of w).stations ≡ stations_test
  unfolding timetable_of between
  stations_same = rw sub-zero

  walks_same : valid_walks (length (timetable_of w).stations) (timetable_of w).walks ≡ walks_test
  walks_same = rw (length_stations, walks_there)

  feet_same : footed w ≡ feet_test
  unfolding footed foot_words footed_from between
  feet_same =
      let all : suc (station_count w) ≡ station_count w + 1 - 0 = omega arith in
      λ i. same (map (walks_to w) (range 0 (all i))) (map (count_to (walks_there i)) (range 0 (all i)))

  abbrev trips_valid : Bool
  trips_valid = valid_trips (station_count w) (trips_at w 0 (trip_count w))

  trips_there : (timetable_of w).trips ≡ trips_at w 0 (trip_count w)
  unfolding timetable_of between
  trips_there = rw sub-zero

  trips_same : valid_trips (length (timetable_of w).stations) (timetable_of w).trips ≡ trips_valid
  trips_same = rw (length_stations, trips_there)

  test_same : all_trips_test ≡ (rising && trips_valid)
  unfolding trips_test between
  test_same =
      let one : trip_count w + 1 - (0 + 1) ≡ trip_count w = omega arith in
      rw one

  pub length_numbers : length (timetable_of w).numbers ≡ trip_count w
  unfolding timetable_of
  length_numbers = length-map (range 0 (trip_count w)) (number_at w) ∙ length_range 0 (trip_count w)

  numbers_same : numbered (timetable_of w) ≡ numbers_test
  unfolding numbered timetable_of between
  numbers_same = rw (eq-eqb _ _ (length_numbers ∙ sym length_trips), sub-zero)

  abbrev parts : Bool
  parts = in_counts && numbers_test && stations_test && walks_test && trips_valid

  is_valid : zeroed ≡ true → rising ≡ true → valid (timetable_of w) ≡ parts
  unfolding valid
  is_valid z r = rw (is_counted z r, numbers_same, stations_same, walks_same, trips_same)

  pub decided : is_timetable w ≡ decision
  unfolding is_timetable chained
  decided = same_tests (is_timetable w) decision forth back
    where
      forth : is_timetable w ≡ true → decision ≡ true
      forth e =
          let z : zeroed ≡ true = search and_left in
          let r : rising ≡ true = search (and_left, and_right) depth 12 in
          let f : footed w ≡ true = search and_right in
          let v : valid (timetable_of w) ≡ true = search (and_left, and_right) depth 12 in
          let all : parts ≡ true = sym (is_valid z r) ∙ v in
          let some : leb 1 (station_count w) ≡ true = search and_left depth 12 in
          let s : leb (station_count w) 64 ≡ true = search (and_left, and_right) depth 12 in
          let few : few_walks ≡ true = search (and_left, and_right) depth 12 in
          let t : leb (trip_count w) 256 ≡ true = search (and_left, and_right) depth 12 in
          let n : leb (stop_count w) 2048 ≡ true = search (and_left, and_right) depth 12 in
          let numbers : numbers_test ≡ true = search (and_left, and_right) depth 12 in
          let stations : stations_test ≡ true = search (and_left, and_right) depth 12 in
          let walks : walks_test ≡ true = search (and_left, and_right) depth 12 in
          let trips : trips_valid ≡ true = search and_right in
          simp (some, s, t, n, z, numbers, stations, few, walks, sym feet_same ∙ f, test_same, r, trips)

      back : decision ≡ true → is_timetable w ≡ true
      back e =
          let z : zeroed ≡ true = search (and_left, and_right) depth 12 in
          let both : (rising && trips_valid) ≡ true = sym test_same ∙ search and_right in
          let r : rising ≡ true = search and_left depth 12 in
          let trips : trips_valid ≡ true = search and_right in
          let some : leb 1 (station_count w) ≡ true = search and_left depth 12 in
          let s : leb (station_count w) 64 ≡ true = search (and_left, and_right) depth 12 in
          let few : few_walks ≡ true = search (and_left, and_right) depth 12 in
          let t : leb (trip_count w) 256 ≡ true = search (and_left, and_right) depth 12 in
          let n : leb (stop_count w) 2048 ≡ true = search (and_left, and_right) depth 12 in
          let numbers : numbers_test ≡ true = search (and_left, and_right) depth 12 in
          let stations : stations_test ≡ true = search (and_left, and_right) depth 12 in
          let walks : walks_test ≡ true = search (and_left, and_right) depth 12 in
          let feet : feet_test ≡ true = search (and_left, and_right) depth 12 in
          let v : valid (timetable_of w) ≡ true =
          is_valid z r ∙ simp (some, s, few, t, n, numbers, stations, walks, trips) in
          simp (z, r, v, feet_same, feet)
