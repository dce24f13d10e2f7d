-- Both layouts lay the same words out but for those of each line, which are as many: so the front, each line and the
-- lists of stations stand at the same places in both.
use Rattle.std.specs.Prelude.{◌≡◌, get_or, drop}
use Rattle.std.proofs.Math.Path.{refl, sym, ap, subst}
use Rattle.std.proofs.Common.{◌∙◌, mul_comm, drop_at}
use Rattle.std.proofs.Math.Bool.{true, false}
use mathlib.Core.List.{List, [], ◌∷◌, ◌++◌, map, append_assoc}
use Prim.Native.Nat.{ℕ, zero, suc, ◌+◌, ◌*◌, ◌<◌}
use Rattle.std.proofs.Math.Nat.{mul_left_comm}
use native.Mathlib.Omega.{arith}
use Rattle.std.proofs.Math.ListN.{length, length-append, length-map}
use Rattle.lists.specs.Lists.{concat_map, range}
use Rattle.lists.specs.Ranges.{length_range}
use Rattle.timetable.specs.Timetable.{Trip, Timetable, number_of}
use Rattle.connections.specs.Rides.{no_stop}
use Rattle.lines.specs.Lines.{lines, course}
use Rattle.lines_tables.specs.Tables.{
  stop_of,
  time_row,
  line_times,
  total_on,
  call_word,
  position_words,
  course_words,
  line_words,
  line_places,
  all_line_words,
  all_call_pairs,
  call_places,
  index_place,
}
use Rattle.lines_lookup.specs.Places.{Stands, left_stands, right_stands, row_place, row_stands, row_next}
use Rattle.lines_lookup.specs.Holding.{length_line_places}
use Rattle.lines_turned.specs.ByTrip.{trip_times, times_by_trip, line_by_trip}

-- ---- rows of one length
pub length_rows : {A : Type 0} (f : A → List ℕ) (m : ℕ) → ((x : A) → length (f x) ≡ m) → (l : List A)
    → length (concat_map f l) ≡ length l * m
length_rows f m even [] = omega arith
length_rows f m even (x ∷ l) = omega (arith, length-append (f x) (concat_map f l), even x, length_rows f m even l)

-- before the place past the last row stand all rows
pub all_rows : {A : Type 0} (f : A → List ℕ) (l : List A) → row_place f l (length l) ≡ length (concat_map f l)
unfolding row_place
all_rows f [] = refl
all_rows f (x ∷ l) = omega (arith, length-append (f x) (concat_map f l), all_rows f l)

-- ---- what stands behind a part
pub stands_drop : (part v : List ℕ) (k : ℕ) → Stands part v k → drop k v ≡ part ++ drop (k + length part) v
stands_drop part v k s =
    let up_to : length (s.before ++ part) ≡ k + length part =
    omega (arith, s.place, length-append s.before part) in
    let whole : v ≡ s.before ++ (part ++ s.past) = s.is ∙ append_assoc s.before part s.past in
    ap (drop k) whole
    ∙ drop_at s.before (part ++ s.past) k s.place
    ∙ ap (λ r. part ++ r) (sym (ap (drop (k + length part)) s.is ∙ drop_at (s.before ++ part) s.past _ up_to))

-- ---- the times of a line
module _ (t : List Trip) where
  pub length_trip_times : (stops z : ℕ) → length (trip_times t stops z) ≡ 2 * stops
  unfolding trip_times
  length_trip_times stops z =
      let times : ℕ → List ℕ = λ p. (stop_of t z p).arrive ∷ (stop_of t z p).depart ∷ [] in
      omega (arith, length_rows times 2 (λ p. refl) (range 0 stops), length_range 0 stops)

  pub length_times_by_trip : (line : List ℕ) → length (times_by_trip t line) ≡ length line *
      (2 * length (course t line))
  unfolding times_by_trip
  length_times_by_trip line =
      length_rows (trip_times t (length (course t line))) (2 * length (course t line))
      (length_trip_times (length (course t line))) line

  length_line_times : (line : List ℕ) → length (line_times t line) ≡ length (course t line) * (2 * length line)
  unfolding line_times time_row
  length_line_times line =
      let row : ℕ → List ℕ = λ p. time_row t false p line ++ time_row t true p line in
      let even : (p : ℕ) → length (row p) ≡ 2 * length line = λ p. omega (
        arith,
        length-append (time_row t false p line) (time_row t true p line),
        length-map line (λ z. (stop_of t z p).arrive),
        length-map line (λ z. (stop_of t z p).depart),
      ) in
      length_rows row (2 * length line) even (range 0 (length (course t line)))
      ∙ ap (λ k. k * (2 * length line)) (length_range 0 (length (course t line)))

module _ (timetable : Timetable) where
  abbrev n : ℕ
  n = length timetable.stations

  abbrev t : List Trip
  t = timetable.trips

  -- ---- the words of a line
  -- those before the times
  abbrev pub line_front : (line : List ℕ) → List ℕ
  line_front line = length (course t line) ∷ length line ∷ (map (number_of timetable) line ++ course_words
      (course t line))

  pub length_line_front : (line : List ℕ) → length (line_front line) ≡ 2 + length line + 3 * length (course t line)
  unfolding course_words
  length_line_front line =
      let c = course t line in
      let position : ℕ → List ℕ = λ p. position_words (call_word (get_or c p no_stop)) (total_on c p) in
      omega (
        arith,
        length-append (map (number_of timetable) line) (concat_map position (range 0 (length c))),
        length-map line (number_of timetable),
        length_rows position 3 (λ p. refl) (range 0 (length c)),
        length_range 0 (length c),
      )

  -- both layouts have as many words of a line
  pub as_many : (line : List ℕ) → length (line_by_trip timetable line) ≡ length (line_words timetable line)
  unfolding line_by_trip line_words
  as_many line =
      let stops = length (course t line) in
      let turned : length line * (2 * stops) ≡ stops * (2 * length line) =
      mul_left_comm (length line) 2 stops
      ∙ ap (λ k. 2 * k) (mul_comm (length line) stops)
      ∙ sym (mul_left_comm stops 2 (length line)) in
      omega (
        arith,
        length-append (line_front line) (times_by_trip t line),
        length-append (line_front line) (line_times t line),
        length_times_by_trip t line,
        length_line_times t line,
        turned,
      )

  -- where the words of the line at place i begin; past the last line, where the lists of stations begin
  abbrev pub line_start : (i : ℕ) → ℕ
  line_start i = 4 + length (lines t) + row_place (line_words timetable) (lines t) i

  pub start_first : line_start 0 ≡ 4 + length (lines t)
  unfolding row_place
  start_first = none (lines t)
    where
      none : (ls : List (List ℕ)) → 4 + length (lines t) + row_place (line_words timetable) ls 0 ≡ 4 + length (lines t)
      none [] = omega arith
      none (l ∷ ls) = omega arith

  pub start_last : line_start (length (lines t)) ≡ index_place timetable
  unfolding all_line_words
  start_last = omega (arith, all_rows (line_words timetable) (lines t))

  pub start_next : (i : ℕ) → i < length (lines t)
      → line_start (i + 1) ≡ line_start i + length (line_by_trip timetable (get_or (lines t) i []))
  start_next i h =
      let next : i + 1 ≡ suc i = omega arith in
      omega (
        arith,
        ap (row_place (line_words timetable) (lines t)) next,
        row_next (line_words timetable) (lines t) i [] h,
        as_many (get_or (lines t) i []),
      )

  -- the words before those of the lines, and behind them
  abbrev pub front : List ℕ
  front =
      n ∷ length (lines t) ∷ length t ∷ index_place timetable ∷ line_places timetable (4 + length (lines t)) (lines t)

  abbrev pub firsts : List ℕ
  firsts = call_places t (index_place timetable + n + 1) 1 n

  abbrev pub pairs : List ℕ
  pairs = all_call_pairs t 1 n

  pub length_front : length front ≡ 4 + length (lines t)
  length_front = omega (arith, length_line_places timetable (4 + length (lines t)) (lines t))

  module _ (f : List ℕ → List ℕ) (even : (l : List ℕ) → length (f l) ≡ length (line_words timetable l)) where
    -- tables in which the words of a line are those of f
    abbrev pub laid : List ℕ
    laid = front ++ concat_map f (lines t) ++ firsts ++ pairs

    even_places : (i : ℕ) (ls : List (List ℕ)) → row_place f ls i ≡ row_place (line_words timetable) ls i
    unfolding row_place
    even_places i [] = refl
    even_places zero (l ∷ ls) = refl
    even_places (suc i) (l ∷ ls) = omega (arith, even l, even_places i ls)

    even_length : (ls : List (List ℕ)) → length (concat_map f ls) ≡ length (concat_map (line_words timetable) ls)
    even_length [] = refl
    even_length (l ∷ ls) =
        omega (
          arith,
          length-append (f l) (concat_map f ls),
          length-append (line_words timetable l) (concat_map (line_words timetable) ls),
          even l,
          even_length ls,
        )

    module _ (v : List ℕ) (s : Stands laid v 0) where
      before_lists : Stands (front ++ concat_map f (lines t)) v 0
      before_lists =
          left_stands (front ++ concat_map f (lines t)) firsts v 0
          (left_stands (front ++ concat_map f (lines t) ++ firsts) pairs v 0 s)

      pub front_in : Stands front v 0
      front_in = left_stands front (concat_map f (lines t)) v 0 before_lists

      pub line_in : (i : ℕ) → i < length (lines t) → Stands (f (get_or (lines t) i [])) v (line_start i)
      line_in i h =
          let here : 0 + length front + row_place f (lines t) i ≡ line_start i =
          omega (arith, length_front, even_places i (lines t)) in
          subst (Stands (f (get_or (lines t) i [])) v) here
          (row_stands f (lines t) v (0 + length front) i [] h
          (right_stands front (concat_map f (lines t)) v 0 before_lists))

      pub lists_in : Stands (firsts ++ pairs) v (index_place timetable)
      unfolding all_line_words
      lists_in =
          let here : 0 + length (front ++ concat_map f (lines t)) ≡ index_place timetable =
          omega (
            arith,
            length-append front (concat_map f (lines t)),
            length_front,
            even_length (lines t),
          ) in
          let whole : Stands (front ++ concat_map f (lines t) ++ (firsts ++ pairs)) v 0 =
          subst (λ x. Stands x v 0) (append_assoc (front ++ concat_map f (lines t)) firsts pairs) s in
          subst (Stands (firsts ++ pairs) v) here
          (right_stands (front ++ concat_map f (lines t)) (firsts ++ pairs) v 0 whole)

    pub length_laid : length laid ≡ index_place timetable + length (firsts ++ pairs)
    unfolding all_line_words
    length_laid =
        omega (
          arith,
          length-append (front ++ concat_map f (lines t) ++ firsts) pairs,
          length-append (front ++ concat_map f (lines t)) firsts,
          length-append front (concat_map f (lines t)),
          length-append firsts pairs,
          length_front,
          even_length (lines t),
        )
