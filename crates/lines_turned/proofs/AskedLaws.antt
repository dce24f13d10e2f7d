-- The ways out of the calls: four slices may be too short, then the words may be no timetable, and then question 10 is
-- left, which the layout that the call takes decides.
use mathlib.Core.Path.{◌≡◌, refl, sym, ap, ◌∙◌}
use mathlib.Core.Bool.{Bool, true, false, not, ◌&&◌}
use mathlib.Core.List.{List, [], ◌∷◌}
use Prim.Native.Nat.{ℕ, zero, suc, ◌≤◌, ◌<◌}
use native.Mathlib.Omega.{arith}
use borrow.Author.Tests.{le-leb, lt-leb, leb-true, not-true, not-false}
use lib.Dec.{leb}
use lib.ListN.{length, get_or}
use Rattle.questions.specs.Question.{ask, first_no, yes_here, yes_later}
use Rattle.lists.specs.Tests.{and_left, and_right}
use Rattle.replies.specs.Reply.{Reply}
use Rattle.replies.specs.Reply.{Done, Refused}
use Rattle.replies.specs.Replies.{reply_of, words_after, reply_done, reply_refused, words_done, words_kept}
use Rattle.replies.specs.Later.{Asked, asked_none, asked_more, asked_on, asked_out}
use Rattle.words.specs.Put.{put, length_put}
use Rattle.timetable.specs.Words.{timetable_of, is_timetable}
use Rattle.lines_tables.specs.Tables.{table_words}
use Rattle.lines_tables.specs.Building.{slices_least, line_count}
use Rattle.lines_tables.specs.Model.{table_at}
use Rattle.lines_tables.proofs.Same.{same_tables}
use Rattle.lines_tables.specs.Fits.{table_fits}
use Rattle.lines_lookup.specs.Holding.{holding}
use Rattle.lines_check.specs.Question10.{are_tables}
use Rattle.lines_turned.specs.ByTrip.{words_by_trip}
use Rattle.lines_turned.specs.Held.{Held, held_written}
use Rattle.lines_turned.specs.Turning.{
  are_by_trip,
  slices_questions,
  slices_number,
  turn_number,
  own_reply,
  own_words,
  by_trip_reply,
  by_trip_words,
  by_stop_reply,
  by_stop_words,
}

-- working space is as long as before
pub written_long : (w old out : List ℕ) → is_timetable w ≡ true → length old ≡ 16384 → out ≡ put 0 (table_at w) old
    → 16384 ≤ length out
written_long w old out accepted long e =
    let fits = table_fits w accepted in
    omega (arith, ap length e, length_put 0 (table_at w) old (omega arith))

-- ---- question 10, which has this answer
module _ (own r : Bool) (is-r : r ≡ own) where
  module _ (denied : not r ≡ true) where
    ten : 10 ≡ first_no (ask 10 own ∷ [])
    ten = ap (λ b. first_no (ask 10 b ∷ [])) (sym (sym is-r ∙ not-true r denied))

    pub refused_reply : (w : List ℕ) → Refused 10 ≡ own_reply w own
    unfolding own_reply
    refused_reply w = reply_refused (first_no (ask 10 own ∷ [])) (line_count (timetable_of w)) 9 ten

    pub refused_words : (result old : List ℕ) → old ≡ own_words own result old
    unfolding own_words
    refused_words result old = words_kept (first_no (ask 10 own ∷ [])) result old 9 ten

  module _ (agreed : not r ≡ false) where
    none : first_no (ask 10 own ∷ []) ≡ 0
    none = ap (λ b. first_no (ask 10 b ∷ [])) (sym is-r ∙ not-false r agreed)

    pub done_words : (result old out : List ℕ) → out ≡ put 0 result old → out ≡ own_words own result old
    unfolding own_words
    done_words result old out e = e ∙ words_done (first_no (ask 10 own ∷ [])) result old none

    pub done_reply : (w v : List ℕ) (count : ℕ) → Held w v → count ≡ get_or v 1 0 → Done count ≡ own_reply w own
    unfolding own_reply
    done_reply w v count held e =
        let t = timetable_of w in
        ap Done (e ∙ (holding v t held.holds).line_count_lem)
        ∙ reply_done (first_no (ask 10 own ∷ [])) (line_count t) none

    -- the tables that were built, word 1 of which counts the lines
    pub built_reply : (w old v : List ℕ) → is_timetable w ≡ true → v ≡ put 0 (table_at w) old
        → Done (get_or v 1 0) ≡ own_reply w own
    built_reply w old v accepted e = done_reply w v (get_or v 1 0) (held_written w old v accepted e) refl

    pub built_words : (w old out : List ℕ) → is_timetable w ≡ true → out ≡ put 0 (table_at w) old
        → out ≡ own_words own (table_words (timetable_of w)) old
    built_words w old out accepted e =
        done_words (table_words (timetable_of w)) old out (e ∙ ap (λ x. put 0 x old) (same_tables w accepted))

-- ---- questions 8 and 9
module _ (w : List ℕ) (k n m : ℕ) where
  pub words_short : length w < 16384 → 8 ≡ slices_number w k n m
  unfolding slices_number
  words_short short = simp (lt-leb 16384 (length w) short)

  module _ (long : 16384 ≤ length w) where
    pub tables_short : k < 16384 → 8 ≡ slices_number w k n m
    unfolding slices_number
    tables_short short = simp (le-leb 16384 (length w) long, lt-leb 16384 k short)

    module _ (tables : 16384 ≤ k) where
      pub work_short : n < 16384 → 8 ≡ slices_number w k n m
      unfolding slices_number
      work_short short = simp (le-leb 16384 (length w) long, le-leb 16384 k tables, lt-leb 16384 n short)

      module _ (space : 16384 ≤ n) where
        pub result_short : m < 16384 → 8 ≡ slices_number w k n m
        unfolding slices_number
        result_short short =
            simp (
              le-leb 16384 (length w) long,
              le-leb 16384 k tables,
              le-leb 16384 n space,
              lt-leb 16384 m short,
            )

        module _ (room : 16384 ≤ m) (r : Bool) (is-r : r ≡ is_timetable w) where
          pub no_timetable : r ≡ false → 9 ≡ slices_number w k n m
          unfolding slices_number
          no_timetable denied =
              simp (
                le-leb 16384 (length w) long,
                le-leb 16384 k tables,
                le-leb 16384 n space,
                le-leb 16384 m room,
                ← is-r,
                denied,
              )

          pub all_long : r ≡ true → 0 ≡ slices_number w k n m
          unfolding slices_number
          all_long agreed =
              simp (
                le-leb 16384 (length w) long,
                le-leb 16384 k tables,
                le-leb 16384 n space,
                le-leb 16384 m room,
                ← is-r,
                agreed,
              )

  -- what a call knows once both have their yes
  module _ (number : ℕ) (is_number : number ≡ slices_number w k n m) where
    abbrev long_all : Bool
    long_all = leb slices_least (length w) && leb slices_least k && leb slices_least n && leb slices_least m

    both : number ≡ 0 → first_no (slices_questions w k n m) ≡ 0
    unfolding slices_number
    both e = sym is_number ∙ e

    module _ (e : number ≡ 0) where
      yes_8 : long_all ≡ true
      yes_8 = yes_here 7 long_all (ask 9 (is_timetable w) ∷ []) (both e)

      three : (leb slices_least (length w) && leb slices_least k && leb slices_least n) ≡ true
      three = and_left (leb slices_least (length w) && leb slices_least k && leb slices_least n) (leb slices_least m)
          yes_8

      two : (leb slices_least (length w) && leb slices_least k) ≡ true
      two = and_left (leb slices_least (length w) && leb slices_least k) (leb slices_least n) three

      pub words_long : 16384 ≤ length w
      words_long = leb-true 16384 (length w) (and_left (leb slices_least (length w)) (leb slices_least k) two)

      pub tables_long : 16384 ≤ k
      tables_long = leb-true 16384 k (and_right (leb slices_least (length w)) (leb slices_least k) two)

      pub work_long : 16384 ≤ n
      work_long =
          leb-true 16384 n (and_right (leb slices_least (length w) && leb slices_least k) (leb slices_least n) three)

      pub result_long : 16384 ≤ m
      result_long =
          leb-true 16384 m
          (and_right (leb slices_least (length w) && leb slices_least k && leb slices_least n) (leb slices_least m)
          yes_8)

      pub accepted : is_timetable w ≡ true
      accepted =
          yes_here 8 (is_timetable w) [] (yes_later 7 long_all (ask 9 (is_timetable w) ∷ []) (both e))

    asked : Asked (slices_questions w k n m)
    asked =
        asked_more 7 long_all (ask 9 (is_timetable w) ∷ []) (asked_more 8 (is_timetable w) [] asked_none)

    on : (own : Bool) → number ≡ 0 → turn_number w k n m own ≡ first_no (ask 10 own ∷ [])
    unfolding turn_number
    on own e = asked_on (slices_questions w k n m) (ask 10 own ∷ []) asked (both e)

    out : (own : Bool) (x : ℕ) → number ≡ suc x → turn_number w k n m own ≡ suc x
    unfolding turn_number slices_number
    out own x e = asked_out (slices_questions w k n m) (ask 10 own ∷ []) asked x (sym e ∙ is_number)

    -- ---- the reply and the words of a call, by either way
    module _ (own : Bool) where
      later_reply : (r : Reply) → number ≡ 0 → r ≡ own_reply w own
          → r ≡ reply_of (turn_number w k n m own) (line_count (timetable_of w))
      unfolding own_reply
      later_reply r e f = f ∙ ap (λ x. reply_of x (line_count (timetable_of w))) (sym (on own e))

      later_words : (result old new : List ℕ) → number ≡ 0 → new ≡ own_words own result old
          → new ≡ words_after (turn_number w k n m own) result old
      unfolding own_words
      later_words result old new e f = f ∙ ap (λ x. words_after x result old) (sym (on own e))

      out_reply : (number ≡ 0 → ⊥) → Refused number ≡ reply_of (turn_number w k n m own) (line_count (timetable_of w))
      out_reply ne = go number refl ne
        where
          go : (x : ℕ) → number ≡ x → (x ≡ 0 → ⊥)
              → Refused x ≡ reply_of (turn_number w k n m own) (line_count (timetable_of w))
          go zero e ne = absurd (ne refl)
          go (suc x) e ne =
              reply_refused (turn_number w k n m own) (line_count (timetable_of w)) x (sym (out own x e))

      out_words : (result old : List ℕ) → (number ≡ 0 → ⊥) → old ≡ words_after (turn_number w k n m own) result old
      out_words result old ne = go number refl ne
        where
          go : (x : ℕ) → number ≡ x → (x ≡ 0 → ⊥) → old ≡ words_after (turn_number w k n m own) result old
          go zero e ne = absurd (ne refl)
          go (suc x) e ne = words_kept (turn_number w k n m own) result old x (sym (out own x e))

-- ---- to times by trip
module _ (w v : List ℕ) (n number : ℕ) where
  module _ (m : ℕ) (is_number : number ≡ slices_number w (length v) n m) where
    pub trip_refused_reply : (number ≡ 0 → ⊥) → Refused number ≡ by_trip_reply w v n m
    unfolding by_trip_reply
    trip_refused_reply ne = out_reply w (length v) n m number is_number (are_tables w v) ne

    pub trip_reply : (r : Reply) → number ≡ 0 → r ≡ own_reply w (are_tables w v) → r ≡ by_trip_reply w v n m
    unfolding by_trip_reply
    trip_reply r e f = later_reply w (length v) n m number is_number (are_tables w v) r e f

  module _ (old : List ℕ) (is_number : number ≡ slices_number w (length v) n (length old)) where
    pub trip_refused_words : (number ≡ 0 → ⊥) → old ≡ by_trip_words w v n old
    unfolding by_trip_words
    trip_refused_words ne =
        out_words w (length v) n (length old) number is_number (are_tables w v) (words_by_trip (timetable_of w)) old ne

    pub trip_words : (new : List ℕ) → number ≡ 0
        → new ≡ own_words (are_tables w v) (words_by_trip (timetable_of w)) old → new ≡ by_trip_words w v n old
    unfolding by_trip_words
    trip_words new e f =
        let result = words_by_trip (timetable_of w) in
        later_words w (length v) n (length old) number is_number (are_tables w v) result old new e f

-- ---- and back
module _ (w u : List ℕ) (n number : ℕ) where
  module _ (m : ℕ) (is_number : number ≡ slices_number w (length u) n m) where
    pub stop_refused_reply : (number ≡ 0 → ⊥) → Refused number ≡ by_stop_reply w u n m
    unfolding by_stop_reply
    stop_refused_reply ne = out_reply w (length u) n m number is_number (are_by_trip w u) ne

    pub stop_reply : (r : Reply) → number ≡ 0 → r ≡ own_reply w (are_by_trip w u) → r ≡ by_stop_reply w u n m
    unfolding by_stop_reply
    stop_reply r e f = later_reply w (length u) n m number is_number (are_by_trip w u) r e f

  module _ (old : List ℕ) (is_number : number ≡ slices_number w (length u) n (length old)) where
    pub stop_refused_words : (number ≡ 0 → ⊥) → old ≡ by_stop_words w u n old
    unfolding by_stop_words
    stop_refused_words ne =
        out_words w (length u) n (length old) number is_number (are_by_trip w u) (table_words (timetable_of w)) old ne

    pub stop_words_lem : (new : List ℕ) → number ≡ 0
        → new ≡ own_words (are_by_trip w u) (table_words (timetable_of w)) old → new ≡ by_stop_words w u n old
    unfolding by_stop_words
    stop_words_lem new e f =
        let result = table_words (timetable_of w) in
        later_words w (length u) n (length old) number is_number (are_by_trip w u) result old new e f
