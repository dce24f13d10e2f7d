-- From the questions 14 and 15 to what a call shows of a list: the reply by its upper and lower half, and the words. A
-- list of feasible connections has 2,880 rows at the most, as durations rise, so that no count looks like a number.
use Rattle.std.specs.Prelude.{◌≡◌, refl, Bool, true, false, cond, ◌↔◌, List, [], ◌∷◌, ◌++◌, ℕ, suc, ◌+◌, ◌≤◌, leb}
use Rattle.std.specs.Prelude.{length, drop}
use Rattle.std.proofs.Common.{sym, ap, ◌∙◌, zero-add, arith, leb-false, le-leb}
use mathlib.Core.List.Memᴰ.{head as here}
use mathlib.Core.List.Memᴰ.{tail as there}
use Rattle.std.proofs.lemmas.Bool.{lt-leb}
use Rattle.std.proofs.lemmas.List.{length-map}
use Rattle.lists.specs.Lists.{◌∈◌}
use Rattle.questions.specs.Question.{Question, ask, first_no}
use Rattle.words.specs.Put.{put_front}
use Rattle.replies.specs.Replies.{reply_of, words_after}
use Rattle.timetable.specs.Timetable.{last_minute}
use Rattle.results.specs.Results.{Measure, row, entries, result, costs, Climbs, Answers}
use Rattle.results.proofs.Answered.{result_answers}
use Rattle.connections.specs.Connections.{Connection, duration}
use Rattle.connections.specs.Planner.{measure, rows_of}
use Rattle.promises.specs.Packed.{packed_count}
use Rattle.promises.specs.Promises.{refusal, shown_words, shown_reply, Shows}

-- ---- questions 14 and 15, or any one number
abbrev pub last_two : (some room : Bool) → List Question
last_two some room = ask 14 some ∷ ask 15 room ∷ []

pub two_reply : (some room : Bool) (count : ℕ) → packed_count (reply_of (first_no (last_two some room)) count)
    ≡ cond some (cond room count (refusal 15)) (refusal 14)
unfolding packed_count reply_of
two_reply true true count = zero-add count
two_reply true false count = refl
two_reply false room count = refl

pub two_words : (some room : Bool) (result before : List ℕ) → words_after (first_no (last_two some room)) result before
    ≡ cond some (cond room (result ++ drop (length result) before) before) before
unfolding words_after
two_words true true result before = put_front result before
two_words true false result before = refl
two_words false room result before = refl

-- which of the two has the no, by the number in the reply's upper half
module _ (some room : Bool) (count reply : ℕ)
    (is : reply ≡ cond some (cond room count (refusal 15)) (refusal 14)) where
  pub first_no_lem : some ≡ false → reply ≡ refusal 14
  first_no_lem e = is ∙ ap (λ s. cond s (cond room count (refusal 15)) (refusal 14)) e

  pub second_no : some ≡ true → room ≡ false → reply ≡ refusal 15
  second_no e f = is ∙ (λ i. cond (e i) (cond (f i) count (refusal 15)) (refusal 14))

pub no_first : (some room : Bool) (count reply : ℕ) → count ≤ 2880
    → reply ≡ cond some (cond room count (refusal 15)) (refusal 14) → reply ≡ refusal 14 → some ≡ false
no_first true true count reply few is e = absurd (omega arith)
no_first true false count reply few is e = absurd (omega arith)
no_first false room count reply few is e = refl

pub no_second : (some room : Bool) (count reply : ℕ) → count ≤ 2880
    → reply ≡ cond some (cond room count (refusal 15)) (refusal 14) → reply ≡ refusal 15 → room ≡ false
no_second true true count reply few is e = absurd (omega arith)
no_second true false count reply few is e = refl
no_second false room count reply few is e = absurd (omega arith)

-- ---- an empty list
pub none_there : {A : Type 0} (l : List A) → leb 1 (length l) ≡ false → l ≡ []
none_there [] e = refl
none_there (x ∷ l) e = absurd (omega (arith, leb-false 1 (length (x ∷ l)) e))

-- two lists are empty together
pub some_length : {A B : Type 0} (l : List A) (k : List B) → (l ≡ []) ↔ (k ≡ []) → leb 1 (length l) ≡ leb 1 (length k)
some_length [] [] e = refl
some_length [] (y ∷ k) e = absurd (no_cons (e.0 refl))
  where
    no_cons : (y ∷ k) ≡ [] → ⊥
    no_cons h = omega (arith, ap length h)
some_length (x ∷ l) [] e = absurd (no_cons (e.1 refl))
  where
    no_cons : (x ∷ l) ≡ [] → ⊥
    no_cons h = omega (arith, ap length h)
some_length (x ∷ l) (y ∷ k) e =
    le-leb 1 (length (x ∷ l)) (omega arith) ∙ sym (le-leb 1 (length (y ∷ k)) (omega arith))

some_there : (minute : ℕ) (list : List Connection) → 1 ≤ length (shown_words minute list) → leb 1 (length list) ≡ true
unfolding rows_of result entries
some_there minute [] h = absurd (omega arith)
some_there minute (c ∷ l) h = le-leb 1 (length (c ∷ l)) (omega arith)

-- ---- how many rows there are
module _ {X : Type 0} (m : Measure X) (most : ℕ) where
  climbs_short : (c : X) (l : List X) → Climbs m (c ∷ l)
      → ((e : X) → e ∈ (c ∷ l) → (m.cost e).minutes ≤ most) → length l + (m.cost c).minutes ≤ most
  climbs_short c [] h within = omega (arith, within c (here refl))
  climbs_short c (d ∷ l) h within =
      omega (arith, h.0 d (here refl), climbs_short d l h.1 (λ e i. within e (there i)))

  climbs_few : (l : List X) → Climbs m l → ((e : X) → e ∈ l → (m.cost e).minutes ≤ most) → length l ≤ suc most
  climbs_few [] h within = omega arith
  climbs_few (c ∷ l) h within = omega (arith, climbs_short c l h within)

-- ---- what is shown of a list
module _ (minute : ℕ) (list : List Connection) where
  pub rows_answer : Answers (measure minute) list (rows_of minute list)
  unfolding rows_of
  rows_answer = result_answers (measure minute) list

  -- no connection takes longer than the two days
  module _ (timely : (c : Connection) → c ∈ list → duration minute c ≤ last_minute) where
    few_rows : length (rows_of minute list) ≤ 2880
    few_rows =
        let shows = rows_answer.shows in
        let few = climbs_few (measure minute) last_minute shows rows_answer.rising
        (λ c i. timely c (rows_answer.picked c i).best.listed) in
        omega (arith, few, ap length rows_answer.rows_are, length-map shows (row (measure minute)))

    module _ (before after : List ℕ) (reply : ℕ) where
      abbrev some : Bool
      some = leb 1 (length list)

      abbrev room : Bool
      room = leb (length (shown_words minute list)) (length before)

      abbrev number : ℕ
      number = first_no (last_two some room)

      pub list_shown : reply ≡ packed_count (reply_of number (length (rows_of minute list)))
          → after ≡ words_after number (shown_words minute list) before → Shows minute list before after reply
      list_shown e f =
          record {
            replies = replies;
            writes = f ∙ two_words some room (shown_words minute list) before;
            none = (
              λ h. none_there list (no_first some room count reply few replies h),
              λ h. first_no_lem some room count reply replies (ap (λ l. leb 1 (length l)) h),
            );
            short = (
              λ h. leb-false _ _ (no_second some room count reply few replies h),
              λ h.
                  second_no some room count reply replies (some_there minute list (omega arith)) (lt-leb _ _ h),
            );
            answers = rows_answer;
          }
        where
          count : ℕ
          count = length (costs (measure minute) list)

          few : count ≤ 2880
          few = omega (arith, few_rows, rows_answer.count)

          replies : reply ≡ shown_reply minute list (length before)
          replies =
              e
              ∙ two_reply some room (length (rows_of minute list))
              ∙ ap (λ k. cond some (cond room k (refusal 15)) (refusal 14)) rows_answer.count
