-- What the code finds in tables that have times by stop (Turned) is the other layout: the front, line by line, and the
-- lists of stations.
use Rattle.std.specs.Prelude.{◌≡◌, List, [], ◌∷◌, ◌++◌, take, drop}
use Rattle.std.proofs.Math.Path.{refl, sym, ap}
use Rattle.std.proofs.Common.{subst, ◌∙◌, drop_of_length-le, drop-cons}
use Prim.Native.Nat.{ℕ, zero, suc, ◌+◌, ◌*◌, ◌≤◌, ◌<◌}
use Rattle.std.proofs.Math.Nat.{zero-mul, suc-mul}
use native.Mathlib.Omega.{arith}
use Rattle.std.proofs.Math.ListN.{length, get_or, length-append}
use Rattle.std.proofs.Math.Seq.{slice, take-length}
use Rattle.lists.specs.Lists.{concat_map, range}
use Rattle.lists.specs.Ranges.{length_range}
use Rattle.timetable.specs.Timetable.{Trip, Timetable}
use Rattle.lines.specs.Lines.{lines, course}
use Rattle.lines_tables.specs.Tables.{
  stop_of,
  line_times,
  line_words,
  all_line_words,
  call_pairs,
  all_call_pairs,
  index_place,
  table_words,
}
use Rattle.lines_lookup.specs.Lookup.{Line, line_place, line_at, times_place, arrive_at, depart_at, calls_place}
use Rattle.lines_lookup.specs.Told.{LineTold, Holds}
use Rattle.lines_lookup.specs.Places.{Stands, front_stands, part_slice, word_at_lem, part_inside, left_stands}
use Rattle.lines_lookup.specs.Places.{row_place}
use Rattle.lines_lookup.specs.Holding.{holding, length_call_places, line_place_told, calls_place_told}
use Rattle.lines_turned.specs.ByTrip.{trip_times, times_by_trip, line_by_trip, words_by_trip}
use Rattle.lines_turned.specs.Turned.{stepped, turned_trips, times_from, line_end, turned_line}
use Rattle.lines_turned.specs.Laid.{
  all_rows,
  stands_drop,
  line_front,
  length_line_front,
  as_many,
  length_times_by_trip,
  line_start,
  start_first,
  start_last,
  start_next,
  front,
  firsts,
  pairs,
  length_front,
  laid,
  front_in,
  line_in,
  lists_in,
  length_laid,
}

-- ---- one line, as it is told
module _ (v : List ℕ) (timetable : Timetable) (i : ℕ) (l : List ℕ) (told : LineTold v timetable i l) where
  abbrev trips : List Trip
  trips = timetable.trips

  abbrev line : Line
  line = line_at v i

  abbrev stops : ℕ
  stops = length (course trips l)

  -- the times of the trip at place j from its stop at place p on
  module _ (j : ℕ) (h : j < length l) where
    abbrev times : (p : ℕ) → List ℕ
    times p = (stop_of trips (get_or l j 0) p).arrive ∷ (stop_of trips (get_or l j 0) p).depart ∷ []

    trip_found : (n p k : ℕ) → p + n ≡ stops → k ≡ times_place line p + j
        → stepped v k line.trips n ≡ concat_map times (range p n)
    unfolding stepped arrive_at depart_at
    trip_found zero p k e f = refl
    trip_found (suc n) p k e f =
        let arrives : get_or v k 0 ≡ (stop_of trips (get_or l j 0) p).arrive =
        ap (λ m. get_or v m 0) f ∙ told.arrive p j (omega arith) h in
        let departs : get_or v (k + line.trips) 0 ≡ (stop_of trips (get_or l j 0) p).depart =
        let there : k + line.trips ≡ times_place line p + line.trips + j = omega (arith, f) in
        ap (λ m. get_or v m 0) there ∙ told.depart p j (omega arith) h in
        let next : k + 2 * line.trips ≡ times_place line (suc p) + j = omega (arith, f, suc-mul p line.trips) in
        λ z. arrives z ∷ departs z ∷ trip_found n (suc p) (k + 2 * line.trips) (omega arith) next z

  trips_found : (n j k : ℕ) → j + n ≡ length l → k ≡ times_from line + j
      → turned_trips v k line.trips line.positions n ≡ concat_map (trip_times trips stops) (drop j l)
  unfolding turned_trips trip_times
  trips_found zero j k e f = ap (concat_map (trip_times trips stops)) (sym (drop_of_length-le l {i = j} (omega arith)))
  trips_found (suc n) j k e f =
      let first : k ≡ times_place line 0 + j = omega (arith, f, zero-mul line.trips) in
      let this : stepped v k line.trips line.positions ≡ trip_times trips stops (get_or l j 0) =
      ap (stepped v k line.trips) told.positions ∙ trip_found j (omega arith) stops 0 k (omega arith) first in
      let others : turned_trips v (k + 1) line.trips line.positions n
      ≡ concat_map (trip_times trips stops) (drop (suc j) l) =
      trips_found n (suc j) (k + 1) (omega arith) (omega (arith, f)) in
      (λ z. this z ++ others z) ∙ ap (concat_map (trip_times trips stops)) (sym (drop-cons l j 0 (omega arith)))

  pub line_found : Stands (line_words timetable l) v line.at → turned_line v line ≡ line_by_trip timetable l
  unfolding turned_line line_by_trip times_by_trip line_words
  line_found s =
      let here : times_from line ≡ line.at + length (line_front timetable l) =
      omega (arith, length_line_front timetable l, told.positions, told.trips) in
      let same : slice line.at (times_from line) v ≡ line_front timetable l =
      ap (λ k. slice line.at k v) here
      ∙ part_slice (line_front timetable l) v line.at
      (left_stands (line_front timetable l) (line_times trips l) v line.at s) in
      let turned : turned_trips v (times_from line) line.trips line.positions line.trips
      ≡ concat_map (trip_times trips stops) l =
      trips_found line.trips 0 (times_from line) (omega (arith, told.trips)) (omega arith) in
      λ z. same z ++ turned z

  pub line_end_lem : line_end line ≡ line.at + length (line_by_trip timetable l)
  unfolding line_by_trip
  line_end_lem =
      let many : line.trips * (2 * line.positions) ≡ length l * (2 * stops) =
      λ z. told.trips z * (2 * told.positions z) in
      omega (
        arith,
        length-append (line_front timetable l) (times_by_trip trips l),
        length_line_front timetable l,
        length_times_by_trip trips l,
        many,
        told.positions,
        told.trips,
      )

-- ---- the whole tables
module _ (timetable : Timetable) where
  abbrev n : ℕ
  n = length timetable.stations

  abbrev t : List Trip
  t = timetable.trips

  abbrev by_stop : List ℕ
  by_stop = table_words timetable

  abbrev by_trip : List ℕ
  by_trip = words_by_trip timetable

  pub turned_stand : (u : List ℕ) → take (length by_trip) u ≡ by_trip
      → Stands (laid timetable (line_by_trip timetable) (as_many timetable)) u 0
  unfolding words_by_trip
  turned_stand u h = front_stands (words_by_trip timetable) u h

  pub straight_stand : (v : List ℕ) → Holds v timetable → Stands (laid timetable (line_words timetable) (λ l. refl)) v 0
  unfolding table_words all_line_words
  straight_stand v h = front_stands (table_words timetable) v h.is

  pub same_length : length by_trip ≡ length by_stop
  unfolding words_by_trip table_words all_line_words
  same_length =
      length_laid timetable (line_by_trip timetable) (as_many timetable)
      ∙ sym (length_laid timetable (line_words timetable) (λ l. refl))

  long : length by_trip ≡ index_place timetable + length (firsts timetable ++ pairs timetable)
  unfolding words_by_trip
  long = length_laid timetable (line_by_trip timetable) (as_many timetable)

  whole : Stands (laid timetable (line_by_trip timetable) (as_many timetable)) by_trip 0
  whole = turned_stand by_trip (take-length by_trip)

  -- the words from one line on are those of the line, then those from the next on
  pub line_next : (i : ℕ) → i < length (lines t)
      → drop (line_start timetable i) by_trip
      ≡ line_by_trip timetable (get_or (lines t) i []) ++ drop (line_start timetable (i + 1)) by_trip
  line_next i h =
      stands_drop (line_by_trip timetable (get_or (lines t) i [])) by_trip (line_start timetable i)
      (line_in timetable (line_by_trip timetable) (as_many timetable) by_trip whole i h)
      ∙ ap (λ k. line_by_trip timetable (get_or (lines t) i []) ++ drop k by_trip) (sym (start_next timetable i h))

  pub line_inside : (i : ℕ) → i < length (lines t) → line_start timetable (i + 1) ≤ length by_trip
  line_inside i h =
      omega (
        arith,
        start_next timetable i h,
        part_inside (line_by_trip timetable (get_or (lines t) i [])) by_trip (line_start timetable i)
            (line_in timetable (line_by_trip timetable) (as_many timetable) by_trip whole i h),
      )

  pub index_inside : line_start timetable (length (lines t)) ≤ length by_trip
  index_inside = omega (arith, long, start_last timetable)

  -- ---- words that hold the tables, times by stop
  module _ (v : List ℕ) (holds : Holds v timetable) where
    pub place_found : (i : ℕ) → i < length (lines t) → line_place v i ≡ line_start timetable i
    place_found i h = line_place_told v timetable holds i h

    pub line_turned : (i : ℕ) → i < length (lines t)
        → turned_line v (line_at v i) ≡ line_by_trip timetable (get_or (lines t) i [])
    unfolding line_at
    line_turned i h =
        line_found v timetable i (get_or (lines t) i []) ((holding v timetable holds).line i h)
        (subst (Stands (line_words timetable (get_or (lines t) i [])) v) (sym (place_found i h))
        (line_in timetable (line_words timetable) (λ l. refl) v (straight_stand v holds) i h))

    pub end_found : (i : ℕ) → i < length (lines t) → line_end (line_at v i) ≡ line_start timetable (i + 1)
    unfolding line_at
    end_found i h =
        line_end_lem v timetable i (get_or (lines t) i []) ((holding v timetable holds).line i h)
        ∙ ap (λ k. k + length (line_by_trip timetable (get_or (lines t) i []))) (place_found i h)
        ∙ sym (start_next timetable i h)

    -- the front, and the lists
    pub front_same : take (line_start timetable 0) by_trip ≡ take (line_start timetable 0) v
    front_same =
        let here : line_start timetable 0 ≡ 0 + length (front timetable) =
        omega (arith, start_first timetable, length_front timetable) in
        ap (λ k. take k by_trip) here
        ∙ part_slice (front timetable) by_trip 0
        (front_in timetable (line_by_trip timetable) (as_many timetable) by_trip whole)
        ∙ sym
        (part_slice (front timetable) v 0
        (front_in timetable (line_words timetable) (λ l. refl) v (straight_stand v holds)))
        ∙ ap (λ k. take k v) (sym here)

    pub index_found : get_or v 3 0 ≡ line_start timetable (length (lines t))
    index_found =
        let here = front_in timetable (line_words timetable) (λ l. refl) v (straight_stand v holds) in
        word_at_lem (front timetable) v 0 here 3 (omega arith) ∙ sym (start_last timetable)

    pub end_of_tables : calls_place v (get_or v 0 0) ≡ length by_trip
    unfolding all_call_pairs
    end_of_tables =
        let stations = range 1 n in
        let all : row_place (call_pairs t) stations n ≡ length (pairs timetable) =
        ap (row_place (call_pairs t) stations) (sym (length_range 1 n)) ∙ all_rows (call_pairs t) stations in
        omega (
          arith,
          ap (calls_place v) (holding v timetable holds).stations,
          calls_place_told v timetable holds n (omega arith),
          all,
          long,
          length-append (firsts timetable) (pairs timetable),
          length_call_places t (index_place timetable + n + 1) 1 n,
        )

    pub lists_same : slice (line_start timetable (length (lines t))) (length by_trip) v
        ≡ drop (line_start timetable (length (lines t))) by_trip
    lists_same =
        let index = index_place timetable in
        let lists = firsts timetable ++ pairs timetable in
        ap (λ k. slice k (length by_trip) v) (start_last timetable)
        ∙ ap (λ k. slice index k v) long
        ∙ part_slice lists v index (lists_in timetable (line_words timetable) (λ l. refl) v (straight_stand v holds))
        ∙ sym
        (part_slice lists by_trip index (lists_in timetable (line_by_trip timetable) (as_many timetable) by_trip whole))
        ∙ ap (λ k. slice index k by_trip) (sym long)
        ∙ ap (drop index) (take-length by_trip)
        ∙ ap (λ k. drop k by_trip) (sym (start_last timetable))
