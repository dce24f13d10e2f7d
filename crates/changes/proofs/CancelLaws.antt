-- The ways out of the call that cancels a trip.
use mathlib.Core.Path.{◌≡◌, refl, sym, ap, subst, ◌∙◌}
use mathlib.Core.Bool.{Bool, true, false, not}
use mathlib.Core.List.{List, [], ◌∷◌}
use Prim.Native.Nat.{ℕ, zero, suc, ◌<◌}
use native.Mathlib.Omega.{arith}
use borrow.Author.Tests.{not-true, not-false}
use lib.Dec.{T}
use Rattle.questions.specs.Question.{ask, first_no}
use Rattle.replies.specs.Reply.{Reply}
use Rattle.replies.specs.Reply.{Done, Refused}
use Rattle.replies.specs.Replies.{reply_done, reply_refused, words_done, words_kept}
use Rattle.replies.specs.Later.{asked_on, asked_out}
use Rattle.words.specs.Put.{put}
use Rattle.timetable.specs.Words.{words, trip_count, timetable_of, is_timetable}
use Rattle.timetable.specs.Check.{length_numbers}
use Rattle.timetable.specs.Access.{spelled_valid}
use Rattle.timetable.specs.Numbers.{climbs}
use Rattle.timetable.specs.Changes.{without, runs_as, place_of}
use Rattle.lines_order.specs.Order.{OrderOf}
use Rattle.lines_tables.specs.Tables.{table_words}
use Rattle.lines_tables.specs.Building.{line_count}
use Rattle.lines_check.specs.Question10.{tables_questions, tables_number}
use Rattle.lines_check.specs.Yes.{tables_asked}
use Rattle.promises.specs.Changes.{cancel_number, after_cancel, cancel_reply, cancel_timetable, cancel_lines}
use Rattle.changes_words.specs.Appended.{left_out}
use Rattle.changes_places.specs.Places.{running_inside}
use Rattle.changes.proofs.AskedLaws.{tables_yes, granted}
use Rattle.changes.proofs.AfterLaws.{left_written, left_yes, left_spells, left_order}

-- ---- a refusal
module _ (w v : List ℕ) (m n : ℕ) where
  module _ (k : ℕ) (is : suc k ≡ cancel_number w v m n) where
    out_reply : Refused (suc k) ≡ cancel_reply w v m n
    unfolding cancel_reply
    out_reply = reply_refused (cancel_number w v m n) (line_count (after_cancel w n)) k is

    out_timetable : w ≡ cancel_timetable w v m n
    unfolding cancel_timetable
    out_timetable = words_kept (cancel_number w v m n) (words (after_cancel w n)) w k is

    out_lines : v ≡ cancel_lines w v m n
    unfolding cancel_lines
    out_lines = words_kept (cancel_number w v m n) (table_words (after_cancel w n)) v k is

  module _ (number : ℕ) (is : number ≡ tables_number w v m) where
    module _ (denied : number ≡ 0 → ⊥) where
      first_no_lem : (k : ℕ) → suc k ≡ tables_number w v m → suc k ≡ cancel_number w v m n
      unfolding cancel_number tables_number
      first_no_lem k e =
          sym
          (asked_out (tables_questions w v m) (ask 18 (runs_as n (timetable_of w).numbers) ∷ []) (tables_asked w v m) k
          e)

      pub denied_reply : Refused number ≡ cancel_reply w v m n
      denied_reply = go number is denied
        where
          go : (k : ℕ) → k ≡ tables_number w v m → (k ≡ 0 → ⊥) → Refused k ≡ cancel_reply w v m n
          go zero e h = absurd (h refl)
          go (suc k) e h = out_reply k (first_no_lem k e)

      pub denied_timetable : w ≡ cancel_timetable w v m n
      denied_timetable = go number is denied
        where
          go : (k : ℕ) → k ≡ tables_number w v m → (k ≡ 0 → ⊥) → w ≡ cancel_timetable w v m n
          go zero e h = absurd (h refl)
          go (suc k) e h = out_timetable k (first_no_lem k e)

      pub denied_lines : v ≡ cancel_lines w v m n
      denied_lines = go number is denied
        where
          go : (k : ℕ) → k ≡ tables_number w v m → (k ≡ 0 → ⊥) → v ≡ cancel_lines w v m n
          go zero e h = absurd (h refl)
          go (suc k) e h = out_lines k (first_no_lem k e)

  module _ (none : tables_number w v m ≡ 0) (b : Bool) (told : b ≡ runs_as n (timetable_of w).numbers) where
    last_question : cancel_number w v m n ≡ first_no (ask 18 b ∷ [])
    unfolding cancel_number
    last_question =
        asked_on (tables_questions w v m) (ask 18 (runs_as n (timetable_of w).numbers) ∷ []) (tables_asked w v m)
        (tables_yes w v m none)
        ∙ ap (λ x. first_no (ask 18 x ∷ [])) (sym told)

    module _ (idle : not b ≡ true) where
      eighteen : 18 ≡ cancel_number w v m n
      eighteen = sym (last_question ∙ rw (not-true b idle))

      pub idle_reply : Refused 18 ≡ cancel_reply w v m n
      idle_reply = out_reply 17 eighteen

      pub idle_timetable : w ≡ cancel_timetable w v m n
      idle_timetable = out_timetable 17 eighteen

      pub idle_lines : v ≡ cancel_lines w v m n
      idle_lines = out_lines 17 eighteen

    module _ (runs : not b ≡ false) where
      no_question : cancel_number w v m n ≡ 0
      no_question = last_question ∙ rw (not-false b runs)

      abbrev okay : is_timetable w ≡ true
      okay = granted w v m none

      module _ (place : ℕ) (is_place : place ≡ place_of n (timetable_of w).numbers) where
        pub place_inside : place < trip_count w
        place_inside =
            omega (
              arith,
              is_place,
              running_inside n (timetable_of w).numbers (sym told ∙ not-false b runs)
                  (climbs (timetable_of w) (subst T (sym (spelled_valid w okay)) tt)),
              length_numbers w,
            )

        module _ (out : List ℕ) (e : out ≡ put 0 (words (left_out (timetable_of w) place)) w) where
          pub done_yes : is_timetable out ≡ true
          done_yes = left_yes w okay n place is_place out e

          pub done_order : (order : List ℕ) → OrderOf (without place (timetable_of w).trips) order
              → OrderOf (timetable_of out).trips order
          done_order order given = left_order w okay n place is_place out e order given

          pub done_timetable : out ≡ cancel_timetable w v m n
          unfolding cancel_timetable
          done_timetable =
              left_written w okay n place is_place out e
              ∙ words_done (cancel_number w v m n) (words (after_cancel w n)) w no_question

          pub done_lines : (tables : List ℕ) → tables ≡ put 0 (table_words (timetable_of out)) v
              → tables ≡ cancel_lines w v m n
          unfolding cancel_lines
          done_lines tables f =
              f
              ∙ ap (λ t. put 0 (table_words t) v) (left_spells w okay n place is_place out e)
              ∙ words_done (cancel_number w v m n) (table_words (after_cancel w n)) v no_question

          pub done_reply : (count : ℕ) → count ≡ line_count (timetable_of out) → Done count ≡ cancel_reply w v m n
          unfolding cancel_reply
          done_reply count f =
              ap Done (f ∙ ap line_count (left_spells w okay n place is_place out e))
              ∙ reply_done (cancel_number w v m n) (line_count (after_cancel w n)) no_question

-- ---- what the rest of the call answers, with working space as long as it was
module _ (w v : List ℕ) (m k n : ℕ) (same : k ≡ m) where
  pub kept_reply : (r : Reply) → r ≡ cancel_reply w v k n → r ≡ cancel_reply w v m n
  kept_reply r e = e ∙ ap (λ x. cancel_reply w v x n) same

  pub kept_timetable : (out : List ℕ) → out ≡ cancel_timetable w v k n → out ≡ cancel_timetable w v m n
  kept_timetable out e = e ∙ ap (λ x. cancel_timetable w v x n) same

  pub kept_lines : (out : List ℕ) → out ≡ cancel_lines w v k n → out ≡ cancel_lines w v m n
  kept_lines out e = e ∙ ap (λ x. cancel_lines w v x n) same
