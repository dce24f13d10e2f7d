-- Words that begin with line tables tell them: what is looked up there is what the timetable says. Each part of the
-- tables stands at the index that the words before it give.
use Rattle.std.specs.Prelude.{◌≡◌}
use Rattle.std.proofs.Math.Path.{refl, ap, subst}
use Rattle.std.proofs.Common.{sym, ◌∙◌, length-append}
use mathlib.Core.List.{List, [], ◌∷◌, ◌++◌}
use Prim.Native.Nat.{ℕ, zero, suc, ◌+◌, ◌≤◌, ◌<◌}
use native.Mathlib.Omega.{arith}
use Rattle.std.proofs.Math.ListN.{length, get_or}
use Rattle.std.proofs.Math.Seq.{slice}
use Rattle.lists.specs.Lists.{range}
use Rattle.lists.specs.Ranges.{length_range}
use Rattle.timetable.specs.Timetable.{Trip, Timetable}
use Rattle.lines.specs.Lines.{lines}
use Rattle.lines_tables.specs.Tables.{
  line_words,
  line_places,
  all_line_words,
  call_pairs,
  all_call_pairs,
  call_places,
  index_place,
  table_words,
}
use Rattle.lines_lookup.specs.Lookup.{line_place, calls_place}
use Rattle.lines_lookup.specs.Told.{Told, Holds}
use Rattle.lines_lookup.specs.Places.{
  Stands,
  front_stands,
  word_at_lem,
  part_slice,
  left_stands,
  right_stands,
  row_place,
  row_stands,
  row_next,
  range_at,
}
use Rattle.lines_lookup.specs.HeldLine.{line_told}

-- ---- the words that say where lines and lists of stations begin
module _ (t : Timetable) where
  line_place_lem : (k i : ℕ) (ls : List (List ℕ)) → i < length ls
      → get_or (line_places t k ls) i 0 ≡ k + row_place (line_words t) ls i
  unfolding line_places row_place
  line_place_lem k i [] h = absurd (omega arith)
  line_place_lem k zero (l ∷ ls) h = omega arith
  line_place_lem k (suc i) (l ∷ ls) h = omega (arith, line_place_lem (k + length (line_words t l)) i ls (omega arith))

  pub length_line_places : (k : ℕ) (ls : List (List ℕ)) → length (line_places t k ls) ≡ length ls
  unfolding line_places
  length_line_places k [] = refl
  length_line_places k (l ∷ ls) = ap suc (length_line_places (k + length (line_words t l)) ls)

module _ (t : List Trip) where
  call_place : (k s n i : ℕ) → i ≤ n → get_or (call_places t k s n) i 0 ≡ k + row_place (call_pairs t) (range s n) i
  unfolding call_places row_place
  call_place k s zero zero h = omega arith
  call_place k s zero (suc i) h = absurd (omega arith)
  call_place k s (suc n) zero h = omega arith
  call_place k s (suc n) (suc i) h =
      omega (arith, call_place (k + length (call_pairs t s)) (suc s) n i (omega arith))

  pub length_call_places : (k s n : ℕ) → length (call_places t k s n) ≡ n + 1
  unfolding call_places
  length_call_places k s zero = refl
  length_call_places k s (suc n) = omega (arith, length_call_places (k + length (call_pairs t s)) (suc s) n)

-- ---- the whole tables
module _ (v : List ℕ) (timetable : Timetable) (holds : Holds v timetable) where
  abbrev n : ℕ
  n = length timetable.stations

  abbrev t : List Trip
  t = timetable.trips

  -- where the words of the first line and the list of the first station begin
  abbrev first_line : ℕ
  first_line = 4 + length (lines t)

  abbrev first_list : ℕ
  first_list = index_place timetable + n + 1

  -- the words that say where lines and where lists begin
  abbrev place_words : List ℕ
  place_words = line_places timetable first_line (lines t)

  abbrev first_words : List ℕ
  first_words = call_places t first_list 1 n

  -- behind the first four words: what stands before first_words, what stands before the lists, and all
  abbrev up_to_lines : List ℕ
  up_to_lines = place_words ++ all_line_words timetable (lines t)

  abbrev up_to_firsts : List ℕ
  up_to_firsts = up_to_lines ++ first_words

  abbrev parts : List ℕ
  parts = up_to_firsts ++ all_call_pairs t 1 n

  table_stands : Stands (n ∷ length (lines t) ∷ length t ∷ index_place timetable ∷ parts) v 0
  unfolding table_words
  table_stands = front_stands (table_words timetable) v holds.is

  head_word : (j : ℕ) → j < 4 → get_or v j 0 ≡ get_or (n ∷ length (lines t) ∷ length t ∷ index_place timetable ∷ parts)
      j 0
  head_word j h = ap (λ k. get_or v k 0) (omega arith) ∙ word_at_lem _ v 0 table_stands j (omega arith)

  parts_stand : Stands parts v 4
  parts_stand = right_stands (n ∷ length (lines t) ∷ length t ∷ index_place timetable ∷ []) parts v 0 table_stands

  before_pairs : Stands up_to_firsts v 4
  before_pairs = left_stands up_to_firsts (all_call_pairs t 1 n) v 4 parts_stand

  before_firsts : Stands up_to_lines v 4
  before_firsts = left_stands up_to_lines first_words v 4 before_pairs

  pub line_place_told : (i : ℕ) → i < length (lines t) → line_place v i
      ≡ first_line + row_place (line_words timetable) (lines t) i
  line_place_told i h =
      word_at_lem place_words v 4 (left_stands place_words (all_line_words timetable (lines t)) v 4 before_firsts) i
      (omega (arith, length_line_places timetable first_line (lines t)))
      ∙ line_place_lem timetable first_line i (lines t) h

  lines_stand : Stands (all_line_words timetable (lines t)) v first_line
  lines_stand =
      subst (λ k. Stands (all_line_words timetable (lines t)) v (4 + k))
      (length_line_places timetable first_line (lines t))
      (right_stands place_words (all_line_words timetable (lines t)) v 4 before_firsts)

  pub line_stands : (i : ℕ) → i < length (lines t)
      → Stands (line_words timetable (get_or (lines t) i [])) v (line_place v i)
  unfolding all_line_words
  line_stands i h =
      subst (Stands (line_words timetable (get_or (lines t) i [])) v) (sym (line_place_told i h))
      (row_stands (line_words timetable) (lines t) v first_line i [] h lines_stand)

  -- ---- the lists of stations
  length_lines : 4 + length up_to_lines ≡ index_place timetable
  length_lines =
      omega (
        arith,
        length-append place_words (all_line_words timetable (lines t)),
        length_line_places timetable first_line (lines t),
      )

  length_firsts : 4 + length up_to_firsts ≡ first_list
  length_firsts =
      omega (arith, length-append up_to_lines first_words, length_lines, length_call_places t first_list 1 n)

  firsts_stand : Stands first_words v (index_place timetable)
  firsts_stand = subst (Stands first_words v) length_lines (right_stands up_to_lines first_words v 4 before_pairs)

  pairs_stand : Stands (all_call_pairs t 1 n) v first_list
  pairs_stand =
      subst (Stands (all_call_pairs t 1 n) v) length_firsts (right_stands up_to_firsts (all_call_pairs t 1 n) v 4
      parts_stand)

  pub calls_place_told : (s : ℕ) → s ≤ n → calls_place v s ≡ first_list + row_place (call_pairs t) (range 1 n) s
  unfolding calls_place
  calls_place_told s h =
      ap (λ k. get_or v (k + s) 0) (head_word 3 (omega arith))
      ∙ word_at_lem first_words v (index_place timetable) firsts_stand s
      (omega (arith, length_call_places t first_list 1 n))
      ∙ call_place t first_list 1 n s h

  module _ (s : ℕ) (h : s < n) where
    inside : s < length (range 1 n)
    inside = omega (arith, length_range 1 n)

    call_station : get_or (range 1 n) s 0 ≡ suc s
    call_station = omega (arith, range_at 1 n s h)

    calls_stand : Stands (call_pairs t (suc s)) v (calls_place v s)
    unfolding all_call_pairs
    calls_stand =
        let row = row_stands (call_pairs t) (range 1 n) v first_list s 0 inside pairs_stand in
        let here = subst (Stands (call_pairs t (get_or (range 1 n) s 0)) v) (sym (calls_place_told s (omega arith))) row
        in
        subst (λ x. Stands (call_pairs t x) v (calls_place v s)) call_station here

    calls_end : calls_place v s + length (call_pairs t (suc s)) ≡ calls_place v (s + 1)
    calls_end =
        let next : s + 1 ≡ suc s = omega arith in
        omega (
          arith,
          calls_place_told s (omega arith),
          calls_place_told (s + 1) (omega arith),
          ap (row_place (call_pairs t) (range 1 n)) next,
          row_next (call_pairs t) (range 1 n) s 0 inside,
          ap (λ x. length (call_pairs t x)) call_station,
        )

    calls_are : slice (calls_place v s) (calls_place v (s + 1)) v ≡ call_pairs t (suc s)
    calls_are =
        ap (λ k. slice (calls_place v s) k v) (sym calls_end)
        ∙ part_slice (call_pairs t (suc s)) v (calls_place v s) calls_stand

-- of any timetable, valid or not: only where the words stand counts
pub holding : (v : List ℕ) (t : Timetable) → Holds v t → Told v t
holding v t holds =
    record {
      stations = head_word v t holds 0 (omega arith);
      line_count_lem = head_word v t holds 1 (omega arith);
      trip_count_lem = head_word v t holds 2 (omega arith);
      line = (λ i h. line_told v t i (get_or (lines t.trips) i []) (line_stands v t holds i h));
      calls = calls_are v t holds;
    }
