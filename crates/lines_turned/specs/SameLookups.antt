-- Every lookup on one layout gives what it gives on the other: words before the times of a line stand at the same
-- places, and a time stands where the trip and then the stop say.
use Rattle.std.specs.Prelude.{◌≡◌, Bool, ◌&&◌}
use Rattle.std.proofs.Math.Path.{refl, sym, ap, subst}
use Rattle.std.proofs.Common.{◌∙◌, zero-add}
use Rattle.std.proofs.Math.Bool.{true, false, cond}
use mathlib.Core.List.{List, [], ◌∷◌, ◌++◌}
use Prim.Native.Nat.{ℕ, zero, suc, ◌+◌, ◌-◌, ◌*◌, ◌%◌, ◌/◌, ◌≤◌, ◌<◌}
use Rattle.std.proofs.Math.Numerals.{add-one}
use native.Mathlib.Omega.{arith}
use borrow.Author.Tests.{le-leb, leb-true}
use Rattle.std.proofs.Math.Dec.{leb}
use Rattle.std.proofs.Math.ListN.{length, get_or, length-append}
use Rattle.std.proofs.Math.Seq.{slice}
use Rattle.lists.specs.Lists.{range}
use Rattle.lists.specs.Ranges.{length_range}
use Rattle.timetable.specs.Timetable.{Trip, Timetable}
use Rattle.lines.specs.Lines.{lines, course}
use Rattle.lines_tables.specs.Tables.{stop_of, line_times, line_words, call_pairs, all_call_pairs, index_place}
use Rattle.lines_lookup.specs.Lookup.{
  Line,
  line_count,
  line_place,
  line_at,
  number_at,
  course_place,
  word_at,
  station_at,
  mark_at,
  low_at,
  total_at,
  arrive_at,
  depart_at,
  calls_place,
  list_of,
}
use Rattle.lists.specs.First.{first_from}
use Rattle.lines_lookup.specs.First.{first_trip}
use Rattle.lines_lookup.specs.Calls.{calls_of, pairs_of}
use Rattle.lines_lookup.specs.Told.{LineTold, Holds}
use Rattle.lines_lookup.specs.Places.{
  Stands,
  word_at_lem,
  part_slice,
  left_stands,
  right_stands,
  row_place,
  row_stands,
  row_next,
  even_rows,
  range_at,
}
use Rattle.lines_lookup.specs.Holding.{holding, length_call_places, calls_place_told}
use Rattle.lines_turned.specs.ByTrip.{
  trip_times,
  times_by_trip,
  line_by_trip,
  trip_place,
  arrive_by_trip,
  depart_by_trip,
  first_by_trip,
}
use Rattle.lines_turned.specs.Laid.{
  line_front,
  length_line_front,
  length_trip_times,
  as_many,
  line_start,
  front,
  firsts,
  pairs,
  length_front,
  front_in,
  line_in,
  lists_in,
}
use Rattle.lines_turned.specs.Found.{turned_stand, straight_stand, place_found}
use Rattle.lines_turned.specs.Claims.{HoldsByTrip, SameLine, SameLookups}

-- the first that passes, of two tests that agree
same_first : (f g : ℕ → Bool) (n j : ℕ) → ((k : ℕ) → j ≤ k → k < j + n → f k ≡ g k) → first_from f j n ≡ first_from g j
    n
unfolding first_from
same_first f g zero j agree = refl
same_first f g (suc n) j agree =
    let here = agree j (omega arith) (omega arith) in
    let later = same_first f g n (suc j) (λ k h g. agree k (omega arith) (omega arith)) in
    λ z. cond (here z) j (later z)

module _ (v u : List ℕ) (timetable : Timetable) (holds : Holds v timetable) (turned : HoldsByTrip u timetable) where
  abbrev n : ℕ
  n = length timetable.stations

  abbrev t : List Trip
  t = timetable.trips

  straight_front : Stands (front timetable) v 0
  straight_front = front_in timetable (line_words timetable) (λ l. refl) v (straight_stand timetable v holds)

  turned_front : Stands (front timetable) u 0
  turned_front = front_in timetable (line_by_trip timetable) (as_many timetable) u (turned_stand timetable u turned.is)

  front_word : (m : ℕ) → m < 4 + length (lines t) → get_or u m 0 ≡ get_or v m 0
  front_word m h =
      let inside : m < length (front timetable) = omega (arith, length_front timetable) in
      ap (λ k. get_or u k 0) (sym (zero-add m))
      ∙ word_at_lem (front timetable) u 0 turned_front m inside
      ∙ sym (word_at_lem (front timetable) v 0 straight_front m inside)
      ∙ ap (λ k. get_or v k 0) (zero-add m)

  -- ---- a line
  module _ (i : ℕ) (h : i < length (lines t)) where
    abbrev trips : List ℕ
    trips = get_or (lines t) i []

    told : LineTold v timetable i trips
    told = (holding v timetable holds).line i h

    abbrev line : Line
    line = line_at v i

    begins : line.at ≡ line_start timetable i
    unfolding line_at
    begins = place_found timetable v holds i h

    straight_line : Stands (line_words timetable trips) v line.at
    straight_line =
        subst (Stands (line_words timetable trips) v) (sym begins)
        (line_in timetable (line_words timetable) (λ l. refl) v (straight_stand timetable v holds) i h)

    turned_line_lem : Stands (line_by_trip timetable trips) u line.at
    turned_line_lem =
        subst (Stands (line_by_trip timetable trips) u) (sym begins)
        (line_in timetable (line_by_trip timetable) (as_many timetable) u (turned_stand timetable u turned.is) i h)

    -- a word before the times
    line_word : (m : ℕ) → m < 2 + line.trips + 3 * line.positions → get_or u (line.at + m) 0 ≡ get_or v (line.at + m) 0
    unfolding line_words line_by_trip
    line_word m g =
        let inside : m < length (line_front timetable trips) =
        omega (arith, length_line_front timetable trips, told.positions, told.trips) in
        word_at_lem (line_front timetable trips) u line.at
        (left_stands (line_front timetable trips) (times_by_trip t trips) u line.at turned_line_lem) m inside
        ∙ sym
        (word_at_lem (line_front timetable trips) v line.at
        (left_stands (line_front timetable trips) (line_times t trips) v line.at straight_line) m inside)

    same_line : line_at u i ≡ line_at v i
    unfolding line_at
    same_line =
        let place : line_place u i ≡ line_place v i = front_word (4 + i) (omega arith) in
        let positions : get_or u (line_place u i) 0 ≡ get_or v (line_place v i) 0 =
        ap (λ k. get_or u k 0) (place ∙ omega arith) ∙ line_word 0 (omega arith) ∙ ap (λ k. get_or v k 0) (omega arith)
        in
        let many : get_or u (line_place u i + 1) 0 ≡ get_or v (line_place v i + 1) 0 =
        ap (λ k. get_or u (k + 1) 0) place ∙ line_word 1 (omega arith) in
        λ z. record { at = place z; positions = positions z; trips = many z }

    number_same : (j : ℕ) → j < line.trips → number_at u line j ≡ number_at v line j
    unfolding number_at
    number_same j g =
        ap (λ k. get_or u k 0) (omega arith) ∙ line_word (2 + j) (omega arith) ∙ ap (λ k. get_or v k 0) (omega arith)

    module _ (p : ℕ) (g : p < line.positions) where
      word_same : word_at u line p ≡ word_at v line p
      unfolding word_at
      word_same =
          ap (λ k. get_or u k 0) (omega arith)
          ∙ line_word (2 + line.trips + 3 * p) (omega arith)
          ∙ ap (λ k. get_or v k 0) (omega arith)

      station_same : station_at u line p ≡ station_at v line p
      unfolding station_at
      station_same = ap (λ n. n % 128) word_same

      mark_same : mark_at u line p ≡ mark_at v line p
      unfolding mark_at
      mark_same = ap (λ n. n / 128) word_same

      low_same : low_at u line p ≡ low_at v line p
      unfolding low_at
      low_same =
          ap (λ k. get_or u k 0) (omega arith)
          ∙ line_word (3 + line.trips + 3 * p) (omega arith)
          ∙ ap (λ k. get_or v k 0) (omega arith)

      total_same : total_at u line p ≡ total_at v line p
      unfolding total_at
      total_same =
          let high : get_or u (course_place line + 3 * p + 2) 0 ≡ get_or v (course_place line + 3 * p + 2) 0 =
          ap (λ k. get_or u k 0) (omega arith)
          ∙ line_word (4 + line.trips + 3 * p) (omega arith)
          ∙ ap (λ k. get_or v k 0) (omega arith) in
          λ z. low_same z + 65536 * high z

      -- arrival and departure of the trip at place j
      module _ (j : ℕ) (f : j < line.trips) where
        abbrev z : ℕ
        z = get_or trips j 0

        abbrev times : (q : ℕ) → List ℕ
        times q = (stop_of t z q).arrive ∷ (stop_of t z q).depart ∷ []

        behind_front : Stands (times_by_trip t trips) u (course_place line + 3 * line.positions)
        unfolding line_by_trip
        behind_front =
            let there : line.at + length (line_front timetable trips) ≡ course_place line + 3 * line.positions =
            omega (arith, length_line_front timetable trips, told.positions, told.trips) in
            subst (Stands (times_by_trip t trips) u) there
            (right_stands (line_front timetable trips) (times_by_trip t trips) u line.at turned_line_lem)

        trip_stands : Stands (trip_times t line.positions z) u (trip_place line j)
        unfolding times_by_trip
        trip_stands =
            let stops = length (course t trips) in
            let inside : j < length trips = omega (arith, told.trips) in
            let many : row_place (trip_times t stops) trips j ≡ j * (2 * line.positions) =
            even_rows (trip_times t stops) (2 * stops) (length_trip_times t stops) trips j inside
            ∙ ap (λ k. j * (2 * k)) (sym told.positions) in
            subst (λ k. Stands (trip_times t k z) u (trip_place line j)) (sym told.positions)
            (subst (λ k. Stands (trip_times t stops z) u (course_place line + 3 * line.positions + k)) many
            (row_stands (trip_times t stops) trips u (course_place line + 3 * line.positions) j 0 inside behind_front))

        stop_stands : Stands (times p) u (trip_place line j + 2 * p)
        unfolding trip_times
        stop_stands =
            let places = range 0 line.positions in
            let inside : p < length places = omega (arith, length_range 0 line.positions) in
            let this : get_or places p 0 ≡ p = omega (arith, range_at 0 line.positions p g) in
            let many : row_place times places p ≡ 2 * p = omega (arith, even_rows times 2 (λ q. refl) places p inside)
            in
            subst (λ q. Stands (times q) u (trip_place line j + 2 * p)) this
            (subst (λ k. Stands (times (get_or places p 0)) u (trip_place line j + k)) many
            (row_stands times places u (trip_place line j) p 0 inside trip_stands))

        arrive_same : arrive_by_trip u line p j ≡ arrive_at v line p j
        unfolding arrive_by_trip
        arrive_same =
            ap (λ k. get_or u k 0) (omega arith)
            ∙ word_at_lem (times p) u (trip_place line j + 2 * p) stop_stands 0 (omega arith)
            ∙ sym (told.arrive p j (omega (arith, told.positions)) (omega (arith, told.trips)))

        depart_same : depart_by_trip u line p j ≡ depart_at v line p j
        unfolding depart_by_trip
        depart_same =
            word_at_lem (times p) u (trip_place line j + 2 * p) stop_stands 1 (omega arith)
            ∙ sym (told.depart p j (omega (arith, told.positions)) (omega (arith, told.trips)))

      first_same : (minute : ℕ) → first_by_trip u line p minute ≡ first_trip v line p minute
      first_same minute =
          same_first (λ j. leb minute (depart_by_trip u line p j)) (λ j. leb minute (depart_at v line p j)) line.trips 0
          (λ j k f. ap (leb minute) (depart_same j (omega arith)))

    line_same : SameLine v u i
    line_same =
        record {
          line = same_line;
          number = (λ j g. ap (λ l. number_at u l j) same_line ∙ number_same j g);
          station = (λ p g. ap (λ l. station_at u l p) same_line ∙ station_same p g);
          mark = (λ p g. ap (λ l. mark_at u l p) same_line ∙ mark_same p g);
          low = (λ p g. ap (λ l. low_at u l p) same_line ∙ low_same p g);
          total = (λ p g. ap (λ l. total_at u l p) same_line ∙ total_same p g);
          arrive = (λ p j g f. ap (λ l. arrive_by_trip u l p j) same_line ∙ arrive_same p g j f);
          depart = (λ p j g f. ap (λ l. depart_by_trip u l p j) same_line ∙ depart_same p g j f);
          first = (λ p minute g. ap (λ l. first_by_trip u l p minute) same_line ∙ first_same p g minute);
        }

  -- ---- the lists of stations
  abbrev lists : List ℕ
  lists = firsts timetable ++ pairs timetable

  straight_lists : Stands lists v (index_place timetable)
  straight_lists = lists_in timetable (line_words timetable) (λ l. refl) v (straight_stand timetable v holds)

  turned_lists : Stands lists u (index_place timetable)
  turned_lists = lists_in timetable (line_by_trip timetable) (as_many timetable) u (turned_stand timetable u turned.is)

  index_is : get_or v 3 0 ≡ index_place timetable
  index_is = word_at_lem (front timetable) v 0 straight_front 3 (omega (arith, length_front timetable))

  place_same : (s : ℕ) → s ≤ n → calls_place u s ≡ calls_place v s
  unfolding calls_place
  place_same s h =
      let inside : s < length lists =
      omega (
        arith,
        length-append (firsts timetable) (pairs timetable),
        length_call_places t (index_place timetable + n + 1) 1 n,
      ) in
      ap (λ k. get_or u (k + s) 0) (front_word 3 (omega arith) ∙ index_is)
      ∙ word_at_lem lists u (index_place timetable) turned_lists s inside
      ∙ sym (word_at_lem lists v (index_place timetable) straight_lists s inside)
      ∙ ap (λ k. get_or v (k + s) 0) (sym index_is)

  -- the list of station s + 1 stands at the same place in both
  module _ (s : ℕ) (h : s < n) where
    turned_calls : Stands (call_pairs t (suc s)) u (calls_place v s)
    unfolding all_call_pairs
    turned_calls =
        let stations = range 1 n in
        let inside : s < length stations = omega (arith, length_range 1 n) in
        let this : get_or stations s 0 ≡ suc s = omega (arith, range_at 1 n s h) in
        let here : index_place timetable + length (firsts timetable) + row_place (call_pairs t) stations s
        ≡ calls_place v s =
        omega (
          arith,
          length_call_places t (index_place timetable + n + 1) 1 n,
          calls_place_told v timetable holds s (omega arith),
        ) in
        subst (λ x. Stands (call_pairs t x) u (calls_place v s)) this
        (subst (Stands (call_pairs t (get_or stations s 0)) u) here
        (row_stands (call_pairs t) stations u (index_place timetable + length (firsts timetable)) s 0 inside
        (right_stands (firsts timetable) (pairs timetable) u (index_place timetable) turned_lists)))

    calls_end : calls_place v s + length (call_pairs t (suc s)) ≡ calls_place v (s + 1)
    calls_end =
        let stations = range 1 n in
        let next : s + 1 ≡ suc s = omega arith in
        let this : get_or stations s 0 ≡ suc s = omega (arith, range_at 1 n s h) in
        omega (
          arith,
          calls_place_told v timetable holds s (omega arith),
          calls_place_told v timetable holds (s + 1) (omega arith),
          ap (row_place (call_pairs t) stations) next,
          row_next (call_pairs t) stations s 0 (omega (arith, length_range 1 n)),
          ap (λ x. length (call_pairs t x)) this,
        )

    slice_same : slice (calls_place u s) (calls_place u (s + 1)) u ≡ slice (calls_place v s) (calls_place v (s + 1)) v
    slice_same =
        (λ z. slice (place_same s (omega arith) z) ((place_same (s + 1) (omega arith) ∙ sym calls_end) z) u)
        ∙ part_slice (call_pairs t (suc s)) u (calls_place v s) turned_calls
        ∙ sym ((holding v timetable holds).calls s h)

  list_same : (s : ℕ) → list_of u s ≡ list_of v s
  unfolding list_of
  list_same zero = refl
  list_same (suc s) =
      let stations : get_or u 0 0 ≡ get_or v 0 0 = front_word 0 (omega arith) in
      ap (λ k. cond (leb 1 (suc s) && leb (suc s) k) (slice (calls_place u (suc s - 1)) (calls_place u (suc s)) u) [])
      stations
      ∙ go (leb (suc s) (get_or v 0 0)) refl
    where
      go : (b : Bool) → leb (suc s) (get_or v 0 0) ≡ b
          → cond (leb 1 (suc s) && b) (slice (calls_place u (suc s - 1)) (calls_place u (suc s)) u) []
          ≡ cond (leb 1 (suc s) && b) (slice (calls_place v (suc s - 1)) (calls_place v (suc s)) v) []
      go false e = rw (le-leb 1 (suc s) (omega arith))
      go true e =
          let listed : s < n =
          omega (arith, leb-true (suc s) (get_or v 0 0) e, (holding v timetable holds).stations) in
          let less : suc s - 1 ≡ s = omega arith in
          rw (le-leb 1 (suc s) (omega arith), less, ← add-one s) (slice_same s listed)

pub same_lookups : (v u : List ℕ) (t : Timetable) → Holds v t → HoldsByTrip u t → SameLookups v u
unfolding calls_of
same_lookups v u t holds turned =
    let word = front_word v u t holds turned in
    let list = list_same v u t holds turned in
    let count : line_count v ≡ length (lines t.trips) = (holding v t holds).line_count_lem in
    record {
      stations = word 0 (omega arith);
      line_count_lem = word 1 (omega arith);
      trip_count_lem = word 2 (omega arith);
      line = (λ i h. line_same v u t holds turned i (omega (arith, count)));
      list = list;
      calls = (λ s. ap pairs_of (list s));
    }
