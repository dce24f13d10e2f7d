-- The words of a timetable after a change: they spell it, and have their yes to question 9.
use mathlib.Core.Path.{◌≡◌, sym, ap, subst, ◌∙◌}
use mathlib.Core.Bool.{true}
use mathlib.Core.List.{List, ◌∷◌, ◌++◌}
use Prim.Native.Nat.{ℕ, suc, ◌+◌, ◌≤◌}
use native.Mathlib.Omega.{arith}
use lib.ListN.{length, take, drop, length-append, take-append-drop}
use lib.Seq.{length-take-le, take_at, drop-append-add}
use Rattle.words.specs.Put.{put, put_front}
use Rattle.timetable.specs.Timetable.{Timetable, valid}
use Rattle.timetable.specs.Words.{words, timetable_of, is_timetable}
use Rattle.timetable.specs.Access.{spelled_valid}
use Rattle.timetable.specs.Changes.{without, inserted, place_of, cancelled}
use Rattle.accepted.specs.Question9.{valid_yes, valid_spells}
use Rattle.accepted.specs.Changed.{cancelled_valid}
use Rattle.lines_tables.specs.Model.{lines_at, table_at}
use Rattle.lines_tables.specs.Tables.{table_words}
use Rattle.lines_tables.proofs.Same.{same_tables}
use Rattle.lines_tables.specs.Building.{line_count}
use Rattle.lines_order.specs.Order.{OrderOf}
use Rattle.changes_words.specs.Appended.{left_out}

-- ---- line tables built from them
pub rebuilt_lines : (w old out : List ℕ) → is_timetable w ≡ true → out ≡ put 0 (table_at w) old
    → out ≡ put 0 (table_words (timetable_of w)) old
rebuilt_lines w old out okay e = e ∙ ap (λ l. put 0 l old) (same_tables w okay)

pub rebuilt_count : (w : List ℕ) (r : ℕ) → r ≡ length (lines_at w) → r ≡ line_count (timetable_of w)
unfolding lines_at
rebuilt_count w r e = e

-- ---- the words of a valid timetable
module _ (t : Timetable) (v : valid t ≡ true) (w out : List ℕ) (e : out ≡ put 0 (words t) w) where
  begins : out ≡ words t ++ drop (length (words t)) w
  begins = e ∙ put_front (words t) w

  pub after_yes : is_timetable out ≡ true
  after_yes = ap is_timetable begins ∙ valid_yes t (drop (length (words t)) w) v

  pub after_spells : timetable_of out ≡ t
  after_spells = ap timetable_of begins ∙ valid_spells t (drop (length (words t)) w) v

-- ---- cancelled
module _ (w : List ℕ) (okay : is_timetable w ≡ true) (n place : ℕ) (is : place ≡ place_of n (timetable_of w).numbers)
  where
    left_is : left_out (timetable_of w) place ≡ cancelled (timetable_of w) n
    unfolding left_out cancelled
    left_is = ap (left_out (timetable_of w)) is

    module _ (out : List ℕ) (e : out ≡ put 0 (words (left_out (timetable_of w) place)) w) where
      pub left_written : out ≡ put 0 (words (cancelled (timetable_of w) n)) w
      left_written = e ∙ ap (λ t. put 0 (words t) w) left_is

      pub left_yes : is_timetable out ≡ true
      left_yes =
          after_yes (cancelled (timetable_of w) n) (cancelled_valid (timetable_of w) n (spelled_valid w okay)) w out
          left_written

      pub left_spells : timetable_of out ≡ cancelled (timetable_of w) n
      left_spells =
          after_spells (cancelled (timetable_of w) n) (cancelled_valid (timetable_of w) n (spelled_valid w okay)) w out
          left_written

      pub left_order : (order : List ℕ) → OrderOf (without place (timetable_of w).trips) order
          → OrderOf (timetable_of out).trips order
      unfolding cancelled
      left_order order given =
          let same : (timetable_of out).trips ≡ without place (timetable_of w).trips =
          ap (λ (t : Timetable). t.trips) left_spells ∙ ap (λ k. without k (timetable_of w).trips) (sym is) in
          subst (λ l. OrderOf l order) (sym same) given

-- a list with one more, without that one
pub back : {A : Type 0} (k : ℕ) (x : A) (l : List A) → k ≤ length l → without k (inserted k x l) ≡ l
back k x l h =
    let front = length-take-le k l h in
    let behind : suc k ≡ length (take k l) + 1 = omega arith in
    let first = take_at (take k l) (x ∷ drop k l) k front in
    let rest : drop (suc k) (inserted k x l) ≡ drop k l =
    ap (λ n. drop n (inserted k x l)) behind ∙ drop-append-add (take k l) (x ∷ drop k l) 1 in
    (λ i. first i ++ rest i) ∙ take-append-drop k l

pub length_inserted : {A : Type 0} (k : ℕ) (x : A) (l : List A) → length (inserted k x l) ≡ length l + 1
length_inserted k x l =
    let sum = length-append (take k l) (x ∷ drop k l) in
    let parts = length-append (take k l) (drop k l) in
    let whole = ap length (take-append-drop k l) in
    omega arith
