-- The ways out of the questions to a query: those about the tables first, then the stations, then the minute.
use mathlib.Core.Path.{◌≡◌, sym, ◌∙◌}
use mathlib.Core.Bool.{Bool, true, false, not, ◌&&◌}
use mathlib.Core.List.{List, [], ◌∷◌, ◌++◌}
use Prim.Native.Nat.{ℕ, ◌≤◌, ◌<◌}
use borrow.Author.Tests.{le-leb, lt-leb, leb-true, not-true, not-false}
use lib.Dec.{leb, eqb}
use lib.ListN.{length, get_or}
use Rattle.questions.specs.Question.{Question, ask, first_no, yes_here}
use Rattle.lists.specs.Tests.{and_left}
use Rattle.questions.specs.declared.Refusal.{Refusal}
use Rattle.questions.specs.Refused.{question_number}
use Rattle.replies.specs.Later.{asked_on, asked_refused}
use Rattle.timetable.specs.Timetable.{last_minute}
use Rattle.timetable.specs.Words.{timetable_of, is_timetable}
use Rattle.timetable.specs.Check.{length_stations}
use Rattle.lines_tables.specs.Building.{slices_least}
use Rattle.lines_check.specs.Question10.{are_tables, tables_questions, tables_number}
use Rattle.lines_check.specs.Asked.{listed, named, query_number}
use Rattle.lines_check.specs.Yes.{tables_asked}

-- ---- stations
module _ (w : List ℕ) (a : ℕ) where
  pub below_first : a < 1 → false ≡ listed (timetable_of w) a
  unfolding listed
  below_first h = simp (lt-leb 1 a h)

  pub as_listed : (k : ℕ) → 1 ≤ a → k ≡ get_or w 0 0 → leb a k ≡ listed (timetable_of w) a
  unfolding listed
  as_listed k h e = simp (le-leb 1 a h, e, length_stations w)

module _ (w : List ℕ) (a b : ℕ) (r : Bool) where
  pub first_unlisted : r ≡ listed (timetable_of w) a → not r ≡ true → false ≡ named (timetable_of w) a b
  unfolding named
  first_unlisted e h = simp (← e, not-true r h)

module _ (w : List ℕ) (a b : ℕ) (r s : Bool) (first : r ≡ listed (timetable_of w) a) (yes-first : not r ≡ false) where
  pub second_unlisted : s ≡ listed (timetable_of w) b → not s ≡ true → false ≡ named (timetable_of w) a b
  unfolding named
  second_unlisted e h = simp (← first, not-false r yes-first, ← e, not-true s h)

  pub both_listed : s ≡ listed (timetable_of w) b → not s ≡ false → not (eqb a b) ≡ named (timetable_of w) a b
  unfolding named
  both_listed e h = simp (← first, not-false r yes-first, ← e, not-false s h)

-- ---- the call
module _ (w v : List ℕ) (n a b u : ℕ) where
  abbrev later : List Question
  later = ask 11 (named (timetable_of w) a b) ∷ ask 12 (leb u last_minute) ∷ []

  pub tables_refused : (r : Refusal) → question_number r ≡ tables_number w v n
      → question_number r ≡ query_number w v n a b u
  unfolding query_number tables_number
  tables_refused r e = asked_refused (tables_questions w v n) later (tables_asked w v n) r e

  module _ (is : 0 ≡ tables_number w v n) where
    on : query_number w v n a b u ≡ first_no later
    unfolding query_number tables_number
    on = asked_on (tables_questions w v n) later (tables_asked w v n) (sym is)

    module _ (r : Bool) (asked : r ≡ named (timetable_of w) a b) where
      pub not_named : not r ≡ true → 11 ≡ query_number w v n a b u
      not_named h = sym (on ∙ simp (← asked, not-true r h))

      pub minute_late : not r ≡ false → last_minute < u → 12 ≡ query_number w v n a b u
      minute_late h g = sym (on ∙ simp (← asked, not-false r h, lt-leb u last_minute g))

      pub all_asked : not r ≡ false → u ≤ last_minute → 0 ≡ query_number w v n a b u
      all_asked h g = sym (on ∙ simp (← asked, not-false r h, le-leb u last_minute g))

-- ---- where the questions about the tables have no refusal, each has its yes
module _ (w v : List ℕ) (n : ℕ) (is : 0 ≡ tables_number w v n) where
  abbrev long : Bool
  long = leb slices_least (length w) && leb slices_least (length v) && leb slices_least n

  no_refusal : first_no (tables_questions w v n) ≡ 0
  unfolding tables_number
  no_refusal = sym is

  long_yes : long ≡ true
  long_yes = yes_here 7 long (ask 9 (is_timetable w) ∷ ask 10 (are_tables w v) ∷ []) no_refusal

  pub words_long : 16384 ≤ length w
  words_long =
      let two : Bool = leb slices_least (length w) && leb slices_least (length v) in
      leb-true 16384 (length w) (and_left (leb slices_least (length w)) (leb slices_least (length v))
      (and_left two (leb slices_least n) long_yes))
