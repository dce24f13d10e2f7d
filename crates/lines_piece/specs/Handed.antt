-- What is handed out for a line: the numbers of its trips, as the timetable that the line tables tell has them, and a
-- piece that lies within the slice.
use Rattle.std.specs.Prelude.{◌≡◌, refl, Bool, true, false, ◌&&◌, ℕ, ◌+◌, ◌-◌, ◌≤◌, ◌<◌, get_or, take, drop}
use Rattle.std.proofs.Math.Path.{sym}
use Rattle.std.proofs.Common.{ap, ◌∙◌, leb-true, eq-eqb, take_at, drop_at, take_all, get_or-take}
use mathlib.Core.List.{List, [], ◌∷◌, ◌++◌, map, append_assoc}
use native.Mathlib.Omega.{arith}
use Rattle.std.proofs.Math.Dec.{leb}
use Rattle.std.proofs.Math.ListN.{length, length-append, get_or-map}
use Rattle.std.proofs.lemmas.List.{length-map}
use Rattle.questions.specs.Question.{ask, first_no}
use Rattle.lists.specs.Tests.{and_left, and_right}
use Rattle.timetable.specs.Timetable.{Trip, Timetable, number_of}
use Rattle.timetable.specs.Words.{words}
use Rattle.lines.specs.Lines.{lines, line_numbers, course}
use Rattle.lines_tables.specs.Tables.{course_words, line_times, line_words, line_places, all_line_words, call_places}
use Rattle.lines_tables.specs.Tables.{all_call_pairs, index_place, table_words}
use Rattle.lines_lookup.specs.Lookup.{line_count, line_place, line_at}
use Rattle.lines_lookup.specs.Told.{Holds}
use Rattle.lines_lookup.specs.Places.{Stands, part_inside, left_stands, right_stands}
use Rattle.lines_lookup.specs.Holding.{length_line_places, holding, line_stands}
use Rattle.accepted.specs.Question9.{valid_yes, valid_spells}
use Rattle.lines_check.specs.Built.{begins_holds, tables_fit}
use Rattle.lines_alone.specs.Drawn.{drawn, are_some}
use Rattle.lines_alone.specs.Facts.{Some, they_fit, they_are}
use Rattle.lines_piece.specs.Piece.{piece_number, piece_start, piece_length, piece}

stands_taken : (part v : List ℕ) (k : ℕ) → Stands part v k → take (length part) (drop k v) ≡ part
stands_taken part v k s =
    ap (λ r. take (length part) (drop k r)) (s.is ∙ append_assoc s.before part s.past)
    ∙ ap (take (length part)) (drop_at s.before (part ++ s.past) k s.place)
    ∙ take_at part s.past (length part) refl

-- ---- the trips of the line at place i
module _ (v : List ℕ) (timetable : Timetable) (i : ℕ) (holds : Holds v timetable) (h : i < line_count v) where
  abbrev t : List Trip
  t = timetable.trips

  abbrev trips : List ℕ
  trips = get_or (lines t) i []

  abbrev numbers : List ℕ
  numbers = map (number_of timetable) trips

  is_line : i < length (lines t)
  is_line = omega (arith, (holding v timetable holds).line_count_lem)

  many : (line_at v i).trips ≡ length trips
  many = ((holding v timetable holds).line i is_line).trips

  numbers_stand : Stands numbers v (line_place v i + 2)
  unfolding line_words
  numbers_stand =
      let counts = length (course t trips) ∷ length trips ∷ [] in
      let behind =
      right_stands counts (numbers ++ course_words (course t trips) ++ line_times t trips) v (line_place v i)
      (line_stands v timetable holds i is_line) in
      left_stands numbers (course_words (course t trips)) v (line_place v i + 2)
      (left_stands (numbers ++ course_words (course t trips)) (line_times t trips) v (line_place v i + 2) behind)

  numbers_inside : line_place v i + 2 + (line_at v i).trips ≤ length v
  numbers_inside =
      omega (
        arith,
        part_inside numbers v (line_place v i + 2) numbers_stand,
        length-map trips (number_of timetable),
        many,
      )

  numbers_are : take (line_at v i).trips (drop (line_place v i + 2) v) ≡ numbers
  numbers_are =
      ap (λ k. take k (drop (line_place v i + 2) v)) (many ∙ sym (length-map trips (number_of timetable)))
      ∙ stands_taken numbers v (line_place v i + 2) numbers_stand

-- ---- where the call's number is 0
-- so the questions behind the first have their yes
all_yes : (a b c : Bool) → first_no (ask 8 a ∷ ask 10 b ∷ ask 11 c ∷ []) ≡ 0 → (b ≡ true) × (c ≡ true)
all_yes true true true e = (refl, refl)
all_yes true true false e = absurd (omega arith)
all_yes true false c e = absurd (omega arith)
all_yes false b c e = absurd (omega arith)

module _ (v : List ℕ) (n line : ℕ) (granted : piece_number v n line ≡ 0) where
  answers : (are_some v ≡ true) × ((leb 1 line && leb line (line_count v)) ≡ true)
  unfolding piece_number
  answers =
      all_yes (leb 16384 (length v) && leb 16384 n) (are_some v) (leb 1 line && leb line (line_count v)) granted

  pub line_least : 1 ≤ line
  line_least = leb-true 1 line (and_left (leb 1 line) (leb line (line_count v)) answers.1)

  pub line_most : line ≤ line_count v
  line_most = leb-true line (line_count v) (and_right (leb 1 line) (leb line (line_count v)) answers.1)

  some : Some v
  some = they_are v answers.0

  pub lines_few : line_count v ≤ 256
  lines_few = (they_fit v some.fit).lines

  held : Holds v (drawn v)
  held = (begins_holds v (drawn v)).0 some.own

  pub piece_within : piece_start v line + piece_length v line ≤ length v
  unfolding piece_start piece_length
  piece_within =
      numbers_inside v (drawn v) (line - 1) held
      (omega (arith, line_least, line_most))

  -- it begins within the line tables, which are not long: they hold themselves, whatever stands behind them
  abbrev told : List ℕ
  told = table_words (drawn v)

  told_few : length told ≤ 16384
  told_few =
      let w = words (drawn v) ++ [] in
      let is = valid_spells (drawn v) [] some.sound in
      omega (arith, tables_fit w (valid_yes (drawn v) [] some.sound), ap (λ t. length (table_words t)) is)

  told_holds : Holds told (drawn v)
  told_holds = record { is = take_all (length told) told (omega arith) }

  told_line : line - 1 < length (lines (drawn v).trips)
  told_line =
      let counted = (holding v (drawn v) held).line_count_lem in
      omega (arith, line_least, line_most, counted)

  told_long : 4 + length (lines (drawn v).trips) ≤ length told
  unfolding table_words
  told_long =
      let t = (drawn v).trips in
      let n = length (drawn v).stations in
      let places = line_places (drawn v) (4 + length (lines t)) (lines t) in
      let two = places ++ all_line_words (drawn v) (lines t) in
      let three = two ++ call_places t (index_place (drawn v) + n + 1) 1 n in
      omega (
        arith,
        length_line_places (drawn v) (4 + length (lines t)) (lines t),
        length-append places (all_line_words (drawn v) (lines t)),
        length-append two (call_places t (index_place (drawn v) + n + 1) 1 n),
        length-append three (all_call_pairs t 1 n),
      )

  told_place : line_place told (line - 1) ≡ line_place v (line - 1)
  told_place =
      ap (λ l. get_or l (4 + (line - 1)) 0) (sym held.is)
      ∙ get_or-take (length told) v (4 + (line - 1)) 0 (omega (arith, told_line, told_long))

  pub start_few : piece_start v line ≤ 16384
  unfolding piece_start
  start_few =
      let counted = (holding told (drawn v) told_holds).line_count_lem in
      let inside =
      numbers_inside told (drawn v) (line - 1) told_holds
      (omega (arith, told_line, counted)) in
      omega (arith, inside, told_place, told_few)

  -- "The trips of one line are handed out": of whatever timetable the tables are, these are the numbers of the trips of
  -- its line, in the line's order
  pub trips_handed : (t : Timetable) → Holds v t → piece v n line ≡ get_or (line_numbers t) (line - 1) []
  unfolding piece piece_start piece_length
  trips_handed t h =
      rw (eq-eqb (piece_number v n line) 0 granted)
      (numbers_are v t (line - 1) h (omega (arith, line_least, line_most)))
      ∙ sym (get_or-map (map (number_of t)) (lines t.trips) (line - 1) [])
