-- What questions 8 to 10 tell where they all have their yes.
use mathlib.Core.Path.{◌≡◌, sym, ap, ◌∙◌}
use mathlib.Core.Bool.{Bool, true, false}
use mathlib.Core.List.{List, [], ◌∷◌}
use Prim.Native.Nat.{ℕ, ◌^◌, ◌≤◌, ◌<◌}
use native.Mathlib.Omega.{arith}
use lib.ListN.{length}
use Rattle.questions.specs.Question.{ask, first_no, yes_here, yes_later}
use Rattle.timetable.specs.Words.{trip_count, timetable_of, is_timetable}
use Rattle.timetable.specs.Access.{counts}
use Rattle.timetable.specs.Changes.{runs_as}
use Rattle.lines_check.specs.Question10.{are_tables, tables_questions, tables_number}
use Rattle.lines_order.specs.Order.{OrderOf}
use Rattle.lines_check.specs.Yes.{Long, long, long_all}
use Rattle.lines_check.specs.Ordered.{Ordered}

module _ (w v : List ℕ) (m : ℕ) (none : tables_number w v m ≡ 0) where
  pub tables_yes : first_no (tables_questions w v m) ≡ 0
  unfolding tables_number
  tables_yes = none

  slices : Long w v m
  slices =
      long_all w v m
      (yes_here 7 (long w v m) (ask 9 (is_timetable w) ∷ ask 10 (are_tables w v) ∷ []) tables_yes)

  pub granted : is_timetable w ≡ true
  granted =
      yes_here 8 (is_timetable w) (ask 10 (are_tables w v) ∷ [])
      (yes_later 7 (long w v m) (ask 9 (is_timetable w) ∷ ask 10 (are_tables w v) ∷ []) tables_yes)

  pub words_room : 16384 ≤ length w
  words_room = slices.words

  pub lines_room : 16384 ≤ length v
  lines_room = slices.tables

  pub work_room : 16384 ≤ m
  work_room = slices.work

  -- the timetable's slice after a change is as long
  pub after_room : (out : List ℕ) → length out ≡ length w → 16384 ≤ length out
  after_room out e = omega (arith, words_room)

  -- a place is a word
  pub narrow_place : (place : ℕ) → place ≤ trip_count w → place < 2 ^ 16
  narrow_place place h = omega (arith, (counts w granted).trips)

pub narrow_trip : (w : List ℕ) (place : ℕ) → is_timetable w ≡ true → place < trip_count w → place < 2 ^ 16
narrow_trip w place good h = omega (arith, (counts w good).trips)

-- the trips in order are lent on
pub order_left : (number : ℕ) (w order : List ℕ) → Ordered number w order → number ≡ 0
    → OrderOf (timetable_of w).trips order
order_left number w order given none = given.is none

-- working space is lent on, as long as it was
pub none_left : (w v : List ℕ) (m k number : ℕ) → number ≡ tables_number w v m → number ≡ 0 → k ≡ m
    → tables_number w v k ≡ 0
none_left w v m k number is e same = ap (tables_number w v) same ∙ sym is ∙ e

pub is_free : (n : ℕ) (l : List ℕ) (b : Bool) → b ≡ runs_as n l → b ≡ false → runs_as n l ≡ false
is_free n l b is e = sym is ∙ e
