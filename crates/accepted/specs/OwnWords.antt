-- Words that have their yes to question 9 begin with the words of the timetable that they spell: station by station,
-- stop by stop, start by start, number by number and walk by walk, what is spelled from an index on is written back to
-- the same words.
use Rattle.std.specs.Prelude.{◌≡◌, true, List, [], ◌∷◌, ◌++◌, map, leb, eqb, length, take, drop}
use Rattle.std.proofs.Math.Path.{refl, sym}
use Rattle.std.proofs.Common.{ap, subst, ◌∙◌, take-add, length-take-le, zero-add, add-zero, suc-add, add-one}
use Rattle.std.proofs.lemmas.List.{map-append, length-map}
use Prim.Native.Nat.{ℕ, zero, suc, ◌+◌, ◌-◌, ◌*◌, ◌≤◌, ◌<◌}
use Rattle.std.proofs.Math.Dec.{T}
use Rattle.std.proofs.Math.ListN.{get_or}
use native.Mathlib.Omega.{arith}
use borrow.Author.Tests.{leb-true, eqb-true}
use Rattle.lists.specs.Lists.{range}
use Rattle.lists.specs.Members.{same_eq}
use Rattle.lists.specs.Ranges.{length_range}
use Rattle.lists.specs.Tests.{and_left, and_right}
use Rattle.timetable.specs.Timetable.{stops_of}
use Rattle.timetable.specs.Words.{station_words, stop_words, start_words, walk_words, foot_words, words, station_count}
use Rattle.timetable.specs.Words.{trip_count, stop_count, station_at, stop_place, stop_at, start_at, trip_at, number_at}
use Rattle.timetable.specs.Words.{foot_place, walks_to, walk_count, walk_place, walk_at, timetable_of, rise, chained}
use Rattle.timetable.specs.Words.{footed}
use Rattle.timetable.specs.Words.{is_timetable}
use Rattle.timetable.specs.Check.{rise_most}
use Rattle.timetable_writing.specs.Parts.{take_one, stops_back}
use Rattle.timetable.specs.Access.{spelled_valid, is_chained, is_footed}
use Rattle.accepted.specs.Valid.{is_valid}
use Rattle.accepted.specs.Fits.{words_count, words_most}

-- ---- runs of numbers
pub range_append : (k m n : ℕ) → range k m ++ range (k + m) n ≡ range k (m + n)
range_append k zero n = rw (add-zero k, zero-add n)
range_append k (suc m) n =
    let place : k + suc m ≡ suc k + m = omega arith in
    rw (suc-add m n, place) (ap (λ r. k ∷ r) (range_append (suc k) m n))

range_between : (a b n : ℕ) → a ≤ b → b ≤ n
    → range a (b - a) ++ range b (n - b) ≡ range a (n - a)
range_between a b n h g =
    let middle : b ≡ a + (b - a) = omega arith in
    let whole : n - a ≡ b - a + (n - b) = omega arith in
    rw whole (ap (λ k. range a (b - a) ++ range k (n - b)) middle ∙ range_append a (b - a) (n - b))

-- ---- starts that never fall
rise_none : (a n : ℕ) → rise a [] n ≡ true → a ≡ n
unfolding rise
rise_none a n e = eqb-true a n e

module _ (a b : ℕ) (l : List ℕ) (n : ℕ) (e : rise a (b ∷ l) n ≡ true) where
  rise_up : a ≤ b
  unfolding rise
  rise_up = leb-true a b (and_left (leb a b) (rise b l n) e)

  rise_on : rise b l n ≡ true
  unfolding rise
  rise_on = and_right (leb a b) (rise b l n) e

module _ (w : List ℕ) where
  stations_back : (k n : ℕ) → 3 + 2 * (k + n) ≤ length w
      → station_words (map (station_at w) (range k n)) ≡ take (2 * n) (drop (3 + 2 * k) w)
  unfolding station_words station_at
  stations_back k zero h = refl
  stations_back k (suc n) h =
      let at = 3 + 2 * k in
      let count : 2 * suc n ≡ suc (suc (2 * n)) = omega arith in
      let place : at + 1 + 1 ≡ 3 + 2 * suc k = omega arith in
      rw (count, take_one w at (suc (2 * n)) (omega arith), take_one w (at + 1) (2 * n) (omega arith), place)
      (ap (λ r. get_or w at 0 ∷ get_or w (at + 1) 0 ∷ r) (stations_back (suc k) n (omega arith)))

  -- ---- trips that follow one another, from trip j on, n of them
  trip_between : (j : ℕ)
      → trip_at w j ≡ map (stop_at w) (range (start_at w j) (start_at w (suc j) - start_at w j))
  unfolding trip_at
  trip_between j = rw (add-one j)

  stops_chained : (j n : ℕ) → rise (start_at w j) (map (start_at w) (range (suc j) n)) (stop_count w) ≡ true
      → stops_of (map (trip_at w) (range j n))
      ≡ map (stop_at w) (range (start_at w j) (stop_count w - start_at w j))
  stops_chained j zero e =
      let none : stop_count w - start_at w j ≡ 0 = omega (arith, rise_none (start_at w j) (stop_count w) e) in
      rw none
  stops_chained j (suc n) e =
      let a = start_at w j in
      let b = start_at w (suc j) in
      let on = rise_on a b (map (start_at w) (range (suc (suc j)) n)) (stop_count w) e in
      let up = rise_up a b (map (start_at w) (range (suc (suc j)) n)) (stop_count w) e in
      let within = rise_most b (map (start_at w) (range (suc (suc j)) n)) (stop_count w) on in
      rw (
        trip_between j,
        stops_chained (suc j) n on,
        ← map-append (stop_at w) (range a (b - a)) (range b (stop_count w - b)),
        range_between a b (stop_count w) up within,
      )

  trip_end : (j : ℕ) → start_at w j ≤ start_at w (suc j) → start_at w j + length (trip_at w j) ≡ start_at w (suc j)
  trip_end j h = simp (trip_between, length-map, length_range) (omega arith)

  take_start : (j n : ℕ) → stop_place w (stop_count w) + j < length w
      → take (suc n) (drop (stop_place w (stop_count w) + j) w)
      ≡ start_at w j ∷ take n (drop (stop_place w (stop_count w) + suc j) w)
  unfolding start_at
  take_start j n h =
      let place : stop_place w (stop_count w) + suc j ≡ stop_place w (stop_count w) + j + 1 = omega arith in
      rw place (take_one w (stop_place w (stop_count w) + j) n h)

  starts_chained : (j n : ℕ) → rise (start_at w j) (map (start_at w) (range (suc j) n)) (stop_count w) ≡ true
      → stop_place w (stop_count w) + j + n < length w
      → start_words (start_at w j) (map (trip_at w) (range j n))
      ≡ take (suc n) (drop (stop_place w (stop_count w) + j) w)
  unfolding start_words
  starts_chained j zero e h = sym (take_start j 0 (omega arith))
  starts_chained j (suc n) e h =
      let a = start_at w j in
      let b = start_at w (suc j) in
      let on = rise_on a b (map (start_at w) (range (suc (suc j)) n)) (stop_count w) e in
      let up = rise_up a b (map (start_at w) (range (suc (suc j)) n)) (stop_count w) e in
      rw (take_start j (suc n) (omega arith), trip_end j up)
      (ap (λ r. a ∷ r) (starts_chained (suc j) n on (omega arith)))

  -- ---- words that stand from a place on: the numbers of the trips, and the counts of walks by station
  words_back : (place k n : ℕ) → place + k + n ≤ length w
      → map (λ j. get_or w (place + j) 0) (range k n) ≡ take n (drop (place + k) w)
  words_back place k zero h = refl
  words_back place k (suc n) h =
      let next : place + k + 1 ≡ place + suc k = omega arith in
      rw (take_one w (place + k) n (omega arith), next)
      (ap (λ r. get_or w (place + k) 0 ∷ r) (words_back place (suc k) n (omega arith)))

  walks_back : (k n : ℕ) → walk_place w (k + n) ≤ length w
      → walk_words (map (walk_at w) (range k n)) ≡ take (4 * n) (drop (walk_place w k) w)
  unfolding walk_words walk_at
  walks_back k zero h = refl
  walks_back k (suc n) h =
      let at = walk_place w k in
      let count : 4 * suc n ≡ suc (suc (suc (suc (4 * n)))) = omega arith in
      let two : at + 1 + 1 ≡ at + 2 = omega arith in
      let three : at + 2 + 1 ≡ at + 3 = omega arith in
      let four : at + 3 + 1 ≡ walk_place w (suc k) = omega arith in
      rw (
        count,
        take_one w at (suc (suc (suc (4 * n)))) (omega arith),
        take_one w (at + 1) (suc (suc (4 * n))) (omega arith),
        two,
        take_one w (at + 2) (suc (4 * n)) (omega arith),
        three,
        take_one w (at + 3) (4 * n) (omega arith),
        four,
      )
      (ap (λ r. get_or w at 0 ∷ get_or w (at + 1) 0 ∷ get_or w (at + 2) 0 ∷ get_or w (at + 3) 0 ∷ r)
      (walks_back (suc k) n (omega arith)))

-- ---- the whole
take_three : (w : List ℕ) → 3 ≤ length w → take 3 w ≡ get_or w 0 0 ∷ get_or w 1 0 ∷ get_or w 2 0 ∷ []
take_three w h = take_one w 0 2 (omega arith) ∙ rw (take_one w 1 1 (omega arith), take_one w 2 0 (omega arith))

take_parts : (w : List ℕ) (a b c d e f g : ℕ) → take (a + b + c + d + e + f + g) w
    ≡ take a w
    ++ take b (drop a w)
    ++ take c (drop (a + b) w)
    ++ take d (drop (a + b + c) w)
    ++ take e (drop (a + b + c + d) w)
    ++ take f (drop (a + b + c + d + e) w)
    ++ take g (drop (a + b + c + d + e + f) w)
take_parts w a b c d e f g =
    rw (
      take-add (a + b + c + d + e + f) g w,
      take-add (a + b + c + d + e) f w,
      take-add (a + b + c + d) e w,
      take-add (a + b + c) d w,
      take-add (a + b) c w,
      take-add a b w,
    )

module _ (w : List ℕ) (c : chained w ≡ true) (f : footed w ≡ true) where
  first_start : start_at w 0 ≡ 0
  unfolding chained
  first_start = eqb-true (start_at w 0) 0 (and_left (eqb (start_at w 0) 0) _ c)

  rises : rise (start_at w 0) (map (start_at w) (range 1 (trip_count w))) (stop_count w) ≡ true
  unfolding chained
  rises = rw first_start (and_right (eqb (start_at w 0) 0) _ c)

  all_stops : stops_of (timetable_of w).trips ≡ map (stop_at w) (range 0 (stop_count w))
  unfolding timetable_of
  all_stops =
      let whole : stop_count w - start_at w 0 ≡ stop_count w = omega (arith, first_start) in
      stops_chained w 0 (trip_count w) rises ∙ rw (whole, first_start)

  station_count_lem : length (timetable_of w).stations ≡ station_count w
  unfolding timetable_of
  station_count_lem = simp (length-map, length_range)

  trip_count_lem : length (timetable_of w).trips ≡ trip_count w
  unfolding timetable_of
  trip_count_lem = simp (length-map, length_range)

  stop_count_lem : length (stops_of (timetable_of w).trips) ≡ stop_count w
  stop_count_lem = simp (all_stops, length-map, length_range)

  walk_count_lem : length (timetable_of w).walks ≡ walk_count w
  unfolding timetable_of
  walk_count_lem = simp (length-map, length_range)

  counts_told : foot_words (station_count w) (timetable_of w).walks
      ≡ map (walks_to w) (range 0 (suc (station_count w)))
  unfolding footed
  counts_told =
      sym (same_eq (map (walks_to w) (range 0 (suc (station_count w))))
      (foot_words (station_count w) (timetable_of w).walks)
      (subst T (sym f) tt))

  -- the words that the timetable takes
  abbrev count : ℕ
  count = words_count (station_count w) (trip_count w) (stop_count w) (walk_count w)

  module _ (h : count ≤ length w) where
    station_part : station_words (timetable_of w).stations ≡ take (2 * station_count w) (drop 3 w)
    unfolding timetable_of
    station_part = stations_back w 0 (station_count w) (omega arith)

    stop_part : stop_words (stops_of (timetable_of w).trips)
        ≡ take (5 * stop_count w) (drop (3 + 2 * station_count w) w)
    stop_part =
        let place : stop_place w 0 ≡ 3 + 2 * station_count w = omega arith in
        rw (all_stops, ← place) (stops_back w 0 (stop_count w) (omega arith))

    start_part : start_words 0 (timetable_of w).trips
        ≡ take (suc (trip_count w)) (drop (3 + 2 * station_count w + 5 * stop_count w) w)
    unfolding timetable_of
    start_part =
        let starts = starts_chained w 0 (trip_count w) rises (omega arith) in
        rw (first_start, add-zero) at starts

    -- the words before the numbers, and those before the counts of walks
    abbrev front : ℕ
    front = 3 + 2 * station_count w + 5 * stop_count w + suc (trip_count w)

    number_part : (timetable_of w).numbers ≡ take (trip_count w) (drop front w)
    unfolding timetable_of number_at
    number_part =
        let at = stop_place w (stop_count w) + (trip_count w + 1) in
        let place : at + 0 ≡ front = omega arith in
        rw (← place) (words_back w at 0 (trip_count w) (omega arith))

    count_part : foot_words (station_count w) (timetable_of w).walks
        ≡ take (suc (station_count w)) (drop (front + trip_count w) w)
    unfolding walks_to
    count_part =
        let place : foot_place w + 0 ≡ front + trip_count w = omega arith in
        counts_told ∙ rw (← place) (words_back w (foot_place w) 0 (suc (station_count w)) (omega arith))

    walk_part : walk_words (timetable_of w).walks
        ≡ take (4 * walk_count w) (drop (front + trip_count w + suc (station_count w)) w)
    unfolding timetable_of
    walk_part =
        let place : walk_place w 0 ≡ front + trip_count w + suc (station_count w) = omega arith in
        rw (← place) (walks_back w 0 (walk_count w) (omega arith))

    pub own_words_lem : words (timetable_of w) ≡ take count w
    unfolding words
    own_words_lem =
        rw (
          station_count_lem,
          trip_count_lem,
          stop_count_lem,
          station_part,
          stop_part,
          start_part,
          number_part,
          count_part,
          walk_part,
          take_parts w 3 (2 * station_count w) (5 * stop_count w) (suc (trip_count w)) (trip_count w)
              (suc (station_count w)) (4 * walk_count w),
          take_three w (omega arith),
        )

-- words that have their yes, and are enough, begin with those of the timetable that they spell
module _ (w : List ℕ) (y : is_timetable w ≡ true) where
  abbrev chain : chained w ≡ true
  chain = is_chained w y

  abbrev foot : footed w ≡ true
  foot = is_footed w y

  yes_fits : count w chain foot ≤ words_most
  yes_fits =
      let v = is_valid (timetable_of w) (spelled_valid w y) in
      omega (
        arith,
        station_count_lem w chain foot,
        trip_count_lem w chain foot,
        stop_count_lem w chain foot,
        walk_count_lem w chain foot,
      )

  pub yes_begins : words_most ≤ length w → take (length (words (timetable_of w))) w ≡ words (timetable_of w)
  yes_begins h =
      let own : words (timetable_of w) ≡ take (count w chain foot) w =
      own_words_lem w chain foot (omega (arith, yes_fits)) in
      let long : length (words (timetable_of w)) ≡ count w chain foot =
      ap length own ∙ length-take-le (count w chain foot) w (omega (arith, yes_fits)) in
      rw long (sym own)
