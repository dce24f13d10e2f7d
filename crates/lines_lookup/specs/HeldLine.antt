-- The words of one line tell it: where they stand at the index that the line's place gives, what is looked up there is
-- what the timetable says of the line.
use Rattle.std.specs.Prelude.{◌≡◌, Bool, List, [], ◌∷◌, ◌++◌, map}
use Rattle.std.proofs.Math.Path.{refl, ap, subst}
use Rattle.std.proofs.Common.{sym, ◌∙◌, arith, length-append}
use Rattle.std.proofs.Math.Bool.{true, false, cond}
use Prim.Native.Nat.{ℕ, zero, suc, ◌+◌, ◌*◌, ◌%◌, ◌<◌}
use Rattle.std.proofs.Math.Nat.{mul_left_comm, mod-add-div}
use Rattle.std.proofs.Math.ListN.{length, get_or, length-map}
use Rattle.lists.specs.Lists.{concat_map, range}
use Rattle.lists.specs.Ranges.{length_range}
use Rattle.timetable.specs.Timetable.{Trip, Timetable, number_of}
use Rattle.connections.specs.Rides.{no_stop}
use Rattle.lines.specs.Lines.{course}
use Rattle.lines_tables.specs.Tables.{stop_of, time_row, line_times, call_word, total_on, position_words}
use Rattle.lines_tables.specs.Tables.{course_words, line_words}
use Rattle.lines_lookup.specs.Lookup.{
  Line,
  line_place,
  line_at,
  number_at,
  course_place,
  word_at,
  low_at,
  total_at,
  times_place,
  arrive_at,
  depart_at,
}
use Rattle.lines_lookup.specs.Told.{LineTold}
use Rattle.lines_lookup.specs.Places.{
  Stands,
  word_at_lem,
  left_stands,
  right_stands,
  row_place,
  row_stands,
  even_rows,
  map_at,
  range_at,
}

-- ---- the course: three words for each position
module _ (c : Trip) where
  abbrev position : (p : ℕ) → List ℕ
  position p = position_words (call_word (get_or c p no_stop)) (total_on c p)

  position_place : (p : ℕ) → p < length c → row_place position (range 0 (length c)) p ≡ 3 * p
  position_place p h =
      omega (
        arith,
        even_rows position 3 (λ q. refl) (range 0 (length c)) p (omega (arith, length_range 0 (length c))),
      )

  length_course_words : length (course_words c) ≡ 3 * length c
  unfolding course_words
  length_course_words = many 0 (length c)
    where
      many : (k n : ℕ) → length (concat_map position (range k n)) ≡ 3 * n
      many k zero = refl
      many k (suc n) = omega (arith, many (suc k) n)

-- ---- the times
module _ (t : List Trip) where
  length_time_row : (departs : Bool) (p : ℕ) (l : List ℕ) → length (time_row t departs p l) ≡ length l
  unfolding time_row
  length_time_row departs p l = length-map l (λ z. cond departs (stop_of t z p).depart (stop_of t z p).arrive)

  abbrev both_rows : (l : List ℕ) (p : ℕ) → List ℕ
  both_rows l p = time_row t false p l ++ time_row t true p l

  length_both_rows : (l : List ℕ) (p : ℕ) → length (both_rows l p) ≡ 2 * length l
  length_both_rows l p =
      omega (
        arith,
        length-append (time_row t false p l) (time_row t true p l),
        length_time_row false p l,
        length_time_row true p l,
      )

-- ---- the line at place i, whose words stand where the tables say
module _ (v : List ℕ) (timetable : Timetable) (i : ℕ) (l : List ℕ)
    (s : Stands (line_words timetable l) v (line_place v i)) where
  abbrev t : List Trip
  t = timetable.trips

  abbrev numbers : List ℕ
  numbers = map (number_of timetable) l

  abbrev at : ℕ
  at = line_place v i

  abbrev stops : ℕ
  stops = length (course t l)

  abbrev line : Line
  line = line_at v i

  lined : Stands (stops ∷ length l ∷ (numbers ++ course_words (course t l) ++ line_times t l)) v at
  unfolding line_words
  lined = s

  positions_told : line.positions ≡ stops
  unfolding line_at
  positions_told = ap (λ k. get_or v k 0) (omega arith) ∙ word_at_lem _ v at lined 0 (omega arith)

  trips_told : line.trips ≡ length l
  unfolding line_at
  trips_told = word_at_lem _ v at lined 1 (omega arith)

  -- numbers, course and times stand one behind the other
  behind_counts : Stands (numbers ++ course_words (course t l) ++ line_times t l) v (at + 2)
  behind_counts = right_stands (stops ∷ length l ∷ []) _ v at lined

  numbers_and_course : Stands (numbers ++ course_words (course t l)) v (at + 2)
  numbers_and_course = left_stands _ (line_times t l) v (at + 2) behind_counts

  numbers_stand : Stands numbers v (at + 2)
  numbers_stand = left_stands _ (course_words (course t l)) v (at + 2) numbers_and_course

  course_at_lem : at + 2 + length numbers ≡ course_place line
  unfolding line_at
  course_at_lem = omega (arith, length-map l (number_of timetable), trips_told)

  course_stands : Stands (course_words (course t l)) v (course_place line)
  course_stands =
      subst (Stands (course_words (course t l)) v) course_at_lem
      (right_stands numbers (course_words (course t l)) v (at + 2) numbers_and_course)

  times_at_lem : at + 2 + length (numbers ++ course_words (course t l)) ≡ course_place line + 3 * line.positions
  times_at_lem =
      omega (
        arith,
        length-append numbers (course_words (course t l)),
        length_course_words (course t l),
        course_at_lem,
        positions_told,
      )

  times_stand : Stands (line_times t l) v (course_place line + 3 * line.positions)
  times_stand =
      subst (Stands (line_times t l) v) times_at_lem
      (right_stands (numbers ++ course_words (course t l)) (line_times t l) v (at + 2) behind_counts)

  number_told : (j : ℕ) → j < length l → number_at v line j ≡ number_of timetable (get_or l j 0)
  unfolding number_at line_at
  number_told j h =
      word_at_lem numbers v (at + 2) numbers_stand j (omega (arith, length-map l (number_of timetable)))
      ∙ map_at (number_of timetable) l j 0 h

  module _ (p : ℕ) (h : p < stops) where
    -- the words of position p
    position_stands : Stands (position (course t l) p) v (course_place line + 3 * p)
    unfolding course_words
    position_stands =
        let places = range 0 stops in
        let inside : p < length places = omega (arith, length_range 0 stops) in
        let this : get_or places p 0 ≡ p = omega (arith, range_at 0 stops p h) in
        let row = row_stands (position (course t l)) places v (course_place line) p 0 inside course_stands in
        subst (λ q. Stands (position (course t l) q) v (course_place line + 3 * p)) this
        (subst (λ n. Stands (position (course t l) (get_or places p 0)) v (course_place line + n))
        (position_place (course t l) p h) row)

    word_told : word_at v line p ≡ call_word (get_or (course t l) p no_stop)
    unfolding word_at
    word_told =
        ap (λ k. get_or v k 0) (omega arith)
        ∙ word_at_lem (position (course t l) p) v (course_place line + 3 * p) position_stands 0 (omega arith)

    low_told : low_at v line p ≡ total_on (course t l) p % 65536
    unfolding low_at
    low_told = word_at_lem (position (course t l) p) v (course_place line + 3 * p) position_stands 1 (omega arith)

    -- low and high word make the total again
    total_told : total_at v line p ≡ total_on (course t l) p
    unfolding total_at
    total_told =
        let high = word_at_lem (position (course t l) p) v (course_place line + 3 * p) position_stands 2 (omega arith)
        in
        (λ i. low_told i + 65536 * high i) ∙ mod-add-div (total_on (course t l) p) 65536

    -- both rows of position p
    rows_stand : Stands (both_rows t l p) v (times_place line p)
    unfolding line_times
    rows_stand =
        let places = range 0 stops in
        let inside : p < length places = omega (arith, length_range 0 stops) in
        let this : get_or places p 0 ≡ p = omega (arith, range_at 0 stops p h) in
        let start = course_place line + 3 * line.positions in
        let row = row_stands (both_rows t l) places v start p 0 inside times_stand in
        let many : row_place (both_rows t l) places p ≡ 2 * (p * line.trips) =
        even_rows (both_rows t l) (2 * length l) (length_both_rows t l) places p inside
        ∙ mul_left_comm p 2 (length l)
        ∙ ap (λ n. 2 * (p * n)) (sym trips_told) in
        subst (λ q. Stands (both_rows t l q) v (times_place line p)) this
        (subst (λ n. Stands (both_rows t l (get_or places p 0)) v (start + n)) many row)

    arrivals_stand : Stands (time_row t false p l) v (times_place line p)
    arrivals_stand = left_stands (time_row t false p l) (time_row t true p l) v (times_place line p) rows_stand

    departures_stand : Stands (time_row t true p l) v (times_place line p + line.trips)
    departures_stand =
        let many : length (time_row t false p l) ≡ line.trips = length_time_row t false p l ∙ sym trips_told in
        subst (λ n. Stands (time_row t true p l) v (times_place line p + n)) many
        (right_stands (time_row t false p l) (time_row t true p l) v (times_place line p) rows_stand)

    arrive_told : (j : ℕ) → j < length l → arrive_at v line p j ≡ (stop_of t (get_or l j 0) p).arrive
    unfolding arrive_at time_row
    arrive_told j g =
        word_at_lem _ v (times_place line p) arrivals_stand j (omega (arith, length_time_row t false p l))
        ∙ map_at (λ z. (stop_of t z p).arrive) l j 0 g

    depart_told : (j : ℕ) → j < length l → depart_at v line p j ≡ (stop_of t (get_or l j 0) p).depart
    unfolding depart_at time_row
    depart_told j g =
        word_at_lem _ v (times_place line p + line.trips) departures_stand j (omega (arith, length_time_row t true p l))
        ∙ map_at (λ z. (stop_of t z p).depart) l j 0 g

  pub line_told : LineTold v timetable i l
  line_told =
      record {
        positions = positions_told;
        trips = trips_told;
        number = number_told;
        word = word_told;
        low = low_told;
        total = total_told;
        arrive = (λ p j h g. arrive_told p h j g);
        depart = (λ p j h g. depart_told p h j g);
      }
