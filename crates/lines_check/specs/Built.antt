-- Question 10 has its yes for what building wrote, with number 0, beside the timetable that it was built from: "That 9,
-- 10 and 13 have their yes for what reading, building and a store call wrote for this timetable, with number 0, is part
-- of the claim and no premise".
use Rattle.std.specs.Prelude.{◌≡◌, Bool, true, ◌&&◌, ◌↔◌, List, [], ◌∷◌, ℕ, ◌≤◌, T, leb, length, take}
use Rattle.std.proofs.Math.Path.{sym}
use Rattle.std.proofs.Common.{ap, subst, ◌∙◌, arith, leb-true}
use Rattle.lists.specs.Tests.{T_true, and_left, and_right}
use Rattle.lists.specs.Members.{same_eq, same_refl}
use Rattle.lists.specs.Lists.{same}
use Rattle.questions.specs.Question.{ask, first_no, yes_here, yes_later}
use Rattle.words.specs.Put.{put, length_put, take_put}
use Rattle.timetable.specs.Timetable.{Timetable}
use Rattle.timetable.specs.Words.{timetable_of, is_timetable}
use Rattle.lines_tables.specs.Tables.{table_words}
use Rattle.lines_tables.proofs.Same.{same_tables}
use Rattle.lines_tables.specs.Fits.{table_fits}
use Rattle.replies.specs.Replies.{number_of, reply_number, words_done}
use Rattle.lines_tables.specs.Building.{slices_least, build_number, line_count, build_reply, build_words}
use Rattle.lines_lookup.specs.Told.{Holds}
use Rattle.lines_check.specs.Question10.{begins, are_tables, tables_number}

-- ---- the test of the first words says that they are those of the line tables
pub begins_holds : (v : List ℕ) (t : Timetable) → begins v t ≡ true ↔ Holds v t
unfolding begins
begins_holds v t = (to, from)
  where
    to : begins v t ≡ true → Holds v t
    to e = record { is = sym (same_eq (table_words t) (take (length (table_words t)) v) (subst T (sym e) tt)) }

    from : Holds v t → begins v t ≡ true
    from h = rw h.is (T_true (same (table_words t) (table_words t)) (same_refl (table_words t)))

-- ---- "Success has number 0", and nothing else has
pub built_number : (w : List ℕ) (m n : ℕ) → number_of (build_reply w m n) ≡ 0 → build_number w m n ≡ 0
unfolding build_reply
built_number w m n e = sym (reply_number (build_number w m n) (line_count (timetable_of w))) ∙ e

pub tables_fit : (w : List ℕ) → is_timetable w ≡ true → length (table_words (timetable_of w)) ≤ slices_least
tables_fit w y =
    omega (arith, table_fits w y, ap length (same_tables w y))

-- ---- what building wrote, with number 0
module _ (w old : List ℕ) (n : ℕ) (done : number_of (build_reply w (length old) n) ≡ 0) where
  abbrev long_enough : Bool
  long_enough = leb slices_least (length w) && leb slices_least (length old) && leb slices_least n

  no_refusal : first_no (ask 8 long_enough ∷ ask 9 (is_timetable w) ∷ []) ≡ 0
  unfolding build_number
  no_refusal = built_number w (length old) n done

  yes_8 : long_enough ≡ true
  yes_8 = yes_here 7 long_enough (ask 9 (is_timetable w) ∷ []) no_refusal

  pub built_yes_9 : is_timetable w ≡ true
  built_yes_9 = yes_here 8 (is_timetable w) [] (yes_later 7 long_enough (ask 9 (is_timetable w) ∷ []) no_refusal)

  pub built_words : build_words w old n ≡ put 0 (table_words (timetable_of w)) old
  unfolding build_words
  built_words =
      let none = built_number w (length old) n done in
      sym (words_done (build_number w (length old) n) (table_words (timetable_of w)) old none)

  pub built_holds : Holds (build_words w old n) (timetable_of w)
  built_holds = record { is = rw built_words (take_put (table_words (timetable_of w)) old) }

  pub built_room : slices_least ≤ length old
  built_room =
      let words : Bool = leb slices_least (length w) in
      let tables : Bool = leb slices_least (length old) in
      let both = and_left (words && tables) (leb slices_least n) yes_8 in
      leb-true slices_least (length old) (and_right words tables both)

  pub built_space : slices_least ≤ n
  built_space =
      let both : Bool = leb slices_least (length w) && leb slices_least (length old) in
      leb-true slices_least n (and_right both (leb slices_least n) yes_8)

  pub built_long : length (build_words w old n) ≡ length old
  built_long =
      ap length built_words
      ∙ length_put 0 (table_words (timetable_of w)) old (omega (arith, tables_fit w built_yes_9, built_room))

  -- question 10 has its yes, and so have all three
  pub built_has_yes : are_tables w (build_words w old n) ≡ true
  built_has_yes = (begins_holds (build_words w old n) (timetable_of w)).1 built_holds

  pub built_asked : tables_number w (build_words w old n) n ≡ 0
  unfolding tables_number
  built_asked = rw (built_long, yes_8, built_yes_9, built_has_yes)
