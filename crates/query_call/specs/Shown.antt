-- The query's reply part by part: the answer from a store that is well made, and before it question 13 and those of
-- every query.
use Rattle.std.specs.Prelude.{◌≡◌, refl, Bool, true, false, not, List, ◌∷◌, ℕ, zero, suc, length}
use Rattle.std.proofs.Math.Path.{sym, ap}
use Rattle.std.proofs.Common.{◌∙◌, arith}
use Rattle.std.proofs.lemmas.Bool.{not-true, not-false}
use Rattle.questions.specs.Question.{ask, first_no}
use Rattle.replies.specs.Reply.{Reply}
use Rattle.replies.specs.Reply.{Refused}
use Rattle.replies.specs.Replies.{reply_of, words_after, reply_refused, words_kept}
use Rattle.replies.specs.Later.{asked_on, asked_out}
use Rattle.timetable.specs.Words.{timetable_of, station_count}
use Rattle.timetable.specs.Check.{length_stations}
use Rattle.stores.specs.Words.{well_made}
use Rattle.lines_check.specs.Asked.{query_questions, query_number}
use Rattle.lines_check.specs.Yes.{Yes, query_asked, yes_all}
use Rattle.promises.specs.Query.{rows, row_words, last_questions, ask_number, ask_reply, ask_words}
use Rattle.query_arcs.specs.Granted.{Granted}
use Rattle.query_answer.specs.Answer.{two_questions, shown_number, shown_reply, shown_words}

-- a refusal, whatever its number
module _ (w v s : List ℕ) (n a b u m : ℕ) where
  out_reply : (k : ℕ) → suc k ≡ ask_number w v s n a b u m → Refused (suc k) ≡ ask_reply w v s n a b u m
  unfolding ask_reply
  out_reply k e = reply_refused (ask_number w v s n a b u m) (length (rows w s a b u)) k e

out_words : (w v s : List ℕ) (n a b u : ℕ) (old : List ℕ) (k : ℕ) → suc k ≡ ask_number w v s n a b u (length old)
    → old ≡ ask_words w v s n a b u old
unfolding ask_words
out_words w v s n a b u old k e =
    words_kept (ask_number w v s n a b u (length old)) (row_words (rows w s a b u)) old k e

-- ---- a no to one of questions 8 to 12
module _ (w v s : List ℕ) (n a b u number : ℕ) (is : number ≡ query_number w v n a b u) (denied : number ≡ 0 → ⊥) where
  first_out : (m k : ℕ) → suc k ≡ query_number w v n a b u → suc k ≡ ask_number w v s n a b u m
  unfolding ask_number query_number
  first_out m k e =
      sym (asked_out (query_questions w v n a b u) (last_questions w s a b u m) (query_asked w v n a b u) k e)

  pub asked_reply : (m : ℕ) → Refused number ≡ ask_reply w v s n a b u m
  asked_reply m = go number is denied
    where
      go : (k : ℕ) → k ≡ query_number w v n a b u → (k ≡ 0 → ⊥) → Refused k ≡ ask_reply w v s n a b u m
      go zero e h = absurd (h refl)
      go (suc k) e h = out_reply w v s n a b u m k (first_out m k e)

  pub asked_words : (old : List ℕ) → old ≡ ask_words w v s n a b u old
  asked_words old = go number is denied
    where
      go : (k : ℕ) → k ≡ query_number w v n a b u → (k ≡ 0 → ⊥) → old ≡ ask_words w v s n a b u old
      go zero e h = absurd (h refl)
      go (suc k) e h = out_words w v s n a b u old k (first_out (length old) k e)

-- ---- all have their yes, with working space as long as it was before they were asked
module _ (w v work after : List ℕ) (a b u : ℕ) (same : length after ≡ length work) where
  pub none_denied : (number : ℕ) → number ≡ query_number w v (length work) a b u → number ≡ 0
      → query_number w v (length after) a b u ≡ 0
  none_denied number is e = ap (λ n. query_number w v n a b u) same ∙ sym is ∙ e

  pub later_reply : (s : List ℕ) (m : ℕ) (z : Reply) → z ≡ ask_reply w v s (length after) a b u m
      → z ≡ ask_reply w v s (length work) a b u m
  later_reply s m z e = e ∙ ap (λ n. ask_reply w v s n a b u m) same

  pub later_words : (s old new : List ℕ) → new ≡ ask_words w v s (length after) a b u old
      → new ≡ ask_words w v s (length work) a b u old
  later_words s old new e = e ∙ ap (λ n. ask_words w v s n a b u old) same

-- ---- question 13: the stations are counted, and the code is told r
pub made_for : (w s : List ℕ) (stations : ℕ) (r : Bool) → stations ≡ station_count w → r ≡ well_made stations s
    → r ≡ well_made (length (timetable_of w).stations) s
made_for w s stations r count made = made ∙ ap (λ k. well_made k s) (count ∙ sym (length_stations w))

module _
    (w v s : List ℕ)
    (n a b u : ℕ)
    (r : Bool)
    (all : query_number w v n a b u ≡ 0)
    (made : r ≡ well_made (length (timetable_of w).stations) s)
  where
    all_yes : first_no (query_questions w v n a b u) ≡ 0
    unfolding query_number
    all_yes = all

    last_number : (m : ℕ) → ask_number w v s n a b u m ≡ first_no (ask 13 r ∷ two_questions w s a b u m)
    unfolding ask_number
    last_number m =
        asked_on (query_questions w v n a b u) (last_questions w s a b u m) (query_asked w v n a b u) all_yes
        ∙ ap (λ t. first_no (ask 13 t ∷ two_questions w s a b u m)) (sym made)

    module _ (denied : not r ≡ true) where
      no : r ≡ false
      no = not-true r denied

      thirteen : (m : ℕ) → 13 ≡ ask_number w v s n a b u m
      thirteen m = sym (last_number m ∙ ap (λ t. first_no (ask 13 t ∷ two_questions w s a b u m)) no)

      pub badly_reply : (m : ℕ) → Refused 13 ≡ ask_reply w v s n a b u m
      badly_reply m = out_reply w v s n a b u m 12 (thirteen m)

      pub badly_words : (old : List ℕ) → old ≡ ask_words w v s n a b u old
      badly_words old = out_words w v s n a b u old 12 (thirteen (length old))

    module _ (given : not r ≡ false) where
      good : r ≡ true
      good = not-false r given

      answers : Yes w v n a b u
      answers = yes_all w v n a b u all

      pub granted : Granted w v s a b u
      granted =
          record {
            long = answers.slices.words;
            accepted = answers.accepted;
            own = answers.own;
            made = sym made ∙ good;
            some = answers.some;
            inside = omega (arith, answers.inside, length_stations w);
            minute = answers.minute;
          }

      pub same_number : (m : ℕ) → shown_number w s a b u m ≡ ask_number w v s n a b u m
      unfolding shown_number
      same_number m = sym (last_number m ∙ ap (λ t. first_no (ask 13 t ∷ two_questions w s a b u m)) good)

      pub shown_reply_lem : (m : ℕ) (z : Reply) → z ≡ shown_reply w s a b u m → z ≡ ask_reply w v s n a b u m
      unfolding shown_reply ask_reply
      shown_reply_lem m z e = e ∙ ap (λ k. reply_of k (length (rows w s a b u))) (same_number m)

      pub shown_words_lem : (old new : List ℕ) → new ≡ shown_words w s a b u old → new ≡ ask_words w v s n a b u old
      unfolding shown_words ask_words
      shown_words_lem old new e = e ∙ ap (λ k. words_after k (row_words (rows w s a b u)) old)
          (same_number (length old))
