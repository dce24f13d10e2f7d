-- The claims, proved.
use Rattle.std.specs.Prelude.{◌≡◌, refl, Bool, true, ◌&&◌, List, [], ◌∷◌, ℕ, ◌≤◌, T, leb, length}
use Rattle.std.proofs.Math.Path.{sym, ap}
use Rattle.std.proofs.Common.{subst, ◌∙◌, arith}
use borrow.Author.Tests.{le-leb, leb-true}
use Rattle.std.proofs.Math.ListN.{take}
use Rattle.lists.specs.Lists.{same}
use Rattle.lists.specs.Tests.{T_true, and_left, and_right}
use Rattle.lists.specs.Members.{same_eq, same_refl}
use Rattle.questions.specs.Question.{ask, first_no, yes_here, yes_later}
use Rattle.replies.specs.Replies.{number_of, reply_of, reply_number, words_done}
use Rattle.words.specs.Put.{put, take_put, length_put}
use Rattle.timetable.specs.Words.{timetable_of, is_timetable}
use Rattle.lines_tables.specs.Tables.{table_words}
use Rattle.lines_tables.specs.Building.{slices_least, line_count}
use Rattle.lines_check.specs.Question10.{begins, are_tables}
use Rattle.lines_check.specs.Built.{tables_fit}
use Rattle.lines_turned.specs.ByTrip.{words_by_trip}
use Rattle.lines_turned.specs.Found.{same_length}
use Rattle.lines_turned.specs.Claims.{ThereAndBack, BackAndThere, Claims}
use Rattle.lines_turned.specs.SameLookups.{same_lookups}
use Rattle.lines_turned.specs.Turning.{
  are_by_trip,
  turn_number,
  by_trip_number,
  by_trip_reply,
  by_trip_words,
  by_stop_number,
  by_stop_reply,
  by_stop_words,
}

-- ---- words that begin with others
starts_with : (x z : List ℕ) → same x (take (length x) z) ≡ true → take (length x) z ≡ x
starts_with x z e = sym (same_eq x (take (length x) z) (subst T (sym e) tt))

put_starts : (x old : List ℕ) → same x (take (length x) (put 0 x old)) ≡ true
put_starts x old = rw (take_put x old) (T_true (same x x) (same_refl x))

-- ---- what a call knows that succeeded
module _ (w : List ℕ) (k n m : ℕ) (own : Bool) (none : turn_number w k n m own ≡ 0) where
  abbrev long : Bool
  long = leb slices_least (length w) && leb slices_least k && leb slices_least n && leb slices_least m

  all : first_no (ask 8 long ∷ ask 9 (is_timetable w) ∷ ask 10 own ∷ []) ≡ 0
  unfolding turn_number
  all = none

  after_8 : first_no (ask 9 (is_timetable w) ∷ ask 10 own ∷ []) ≡ 0
  after_8 = yes_later 7 long (ask 9 (is_timetable w) ∷ ask 10 own ∷ []) all

  yes_8 : long ≡ true
  yes_8 = yes_here 7 long (ask 9 (is_timetable w) ∷ ask 10 own ∷ []) all

  yes_9 : is_timetable w ≡ true
  yes_9 = yes_here 8 (is_timetable w) (ask 10 own ∷ []) after_8

  yes_10 : own ≡ true
  yes_10 = yes_here 9 own [] (yes_later 8 (is_timetable w) (ask 10 own ∷ []) after_8)

  three : (leb slices_least (length w) && leb slices_least k && leb slices_least n) ≡ true
  three = and_left (leb slices_least (length w) && leb slices_least k && leb slices_least n) (leb slices_least m) yes_8

  words_long : leb slices_least (length w) ≡ true
  words_long =
      and_left (leb slices_least (length w)) (leb slices_least k)
      (and_left (leb slices_least (length w) && leb slices_least k) (leb slices_least n) three)

  result_long : slices_least ≤ m
  result_long =
      leb-true slices_least m
      (and_right (leb slices_least (length w) && leb slices_least k && leb slices_least n) (leb slices_least m) yes_8)

  -- then a call lent what was written, and slices long enough, succeeds too
  again : (j s r : ℕ) → j ≡ m → slices_least ≤ s → slices_least ≤ r → (own' : Bool) → own' ≡ true
      → turn_number w j s r own' ≡ 0
  unfolding turn_number
  again j s r e h g own' yes' =
      rw (
        e,
        words_long,
        le-leb slices_least m result_long,
        le-leb slices_least s h,
        le-leb slices_least r g,
        yes_9,
        yes',
      )

-- ---- the words of both layouts are as many, and fit
module _ (w : List ℕ) where
  as_long : length (words_by_trip (timetable_of w)) ≡ length (table_words (timetable_of w))
  as_long = same_length (timetable_of w)

  -- what was written keeps the length
  kept : (x old : List ℕ) → is_timetable w ≡ true → length x ≡ length (table_words (timetable_of w))
      → slices_least ≤ length old → length (put 0 x old) ≡ length old
  kept x old accepted e h = length_put 0 x old (omega (arith, tables_fit w accepted))

-- ---- there and back
module _ (w v : List ℕ) (n : ℕ) (old : List ℕ) (k : ℕ) (back : List ℕ)
    (done : number_of (by_trip_reply w v n (length old)) ≡ 0) (h : slices_least ≤ k) (g : slices_least ≤ length back)
  where
    none : by_trip_number w v n (length old) ≡ 0
    unfolding by_trip_reply
    none = sym (reply_number (by_trip_number w v n (length old)) (line_count (timetable_of w))) ∙ done

    abbrev own : Bool
    own = are_tables w v

    accepted : is_timetable w ≡ true
    accepted = yes_9 w (length v) n (length old) own none

    written : by_trip_words w v n old ≡ put 0 (words_by_trip (timetable_of w)) old
    unfolding by_trip_words
    written = sym (words_done (by_trip_number w v n (length old)) (words_by_trip (timetable_of w)) old none)

    asked_then : are_by_trip w (by_trip_words w v n old) ≡ true
    unfolding are_by_trip
    asked_then = rw written (put_starts (words_by_trip (timetable_of w)) old)

    none_then : by_stop_number w (by_trip_words w v n old) k (length back) ≡ 0
    none_then =
        again w (length v) n (length old) own none (length (by_trip_words w v n old)) k (length back)
        (ap length written
        ∙ kept w (words_by_trip (timetable_of w)) old accepted (as_long w)
        (result_long w (length v) n (length old) own none))
        h g (are_by_trip w (by_trip_words w v n old)) asked_then

    first_words_lem : take (length (table_words (timetable_of w))) v ≡ table_words (timetable_of w)
    unfolding begins
    first_words_lem = starts_with (table_words (timetable_of w)) v (yes_10 w (length v) n (length old) own none)

    there_back : ThereAndBack w v n old k back
    unfolding by_trip_reply by_stop_reply by_stop_words
    there_back =
        record {
          asked = asked_then;
          replies = ap (λ x. reply_of x (line_count (timetable_of w))) (none_then ∙ sym none);
          words =
              sym
              (words_done
              (by_stop_number w (by_trip_words w v n old) k (length back))
              (table_words (timetable_of w))
              back
              none_then)
              ∙ ap (λ x. put 0 x back) (sym first_words_lem);
        }

-- ---- back and there
module _ (w u : List ℕ) (n : ℕ) (old : List ℕ) (k : ℕ) (back : List ℕ)
    (done : number_of (by_stop_reply w u n (length old)) ≡ 0) (h : slices_least ≤ k) (g : slices_least ≤ length back)
  where
    none_2 : by_stop_number w u n (length old) ≡ 0
    unfolding by_stop_reply
    none_2 = sym (reply_number (by_stop_number w u n (length old)) (line_count (timetable_of w))) ∙ done

    abbrev own_2 : Bool
    own_2 = are_by_trip w u

    accepted_2 : is_timetable w ≡ true
    accepted_2 = yes_9 w (length u) n (length old) own_2 none_2

    written_2 : by_stop_words w u n old ≡ put 0 (table_words (timetable_of w)) old
    unfolding by_stop_words
    written_2 = sym (words_done (by_stop_number w u n (length old)) (table_words (timetable_of w)) old none_2)

    asked_2 : are_tables w (by_stop_words w u n old) ≡ true
    unfolding begins
    asked_2 = rw written_2 (put_starts (table_words (timetable_of w)) old)

    none_then_2 : by_trip_number w (by_stop_words w u n old) k (length back) ≡ 0
    none_then_2 =
        again w (length u) n (length old) own_2 none_2 (length (by_stop_words w u n old)) k (length back)
        (ap length written_2
        ∙ kept w (table_words (timetable_of w)) old accepted_2 refl
        (result_long w (length u) n (length old) own_2 none_2))
        h g (are_tables w (by_stop_words w u n old)) asked_2

    first_words_2 : take (length (table_words (timetable_of w))) u ≡ words_by_trip (timetable_of w)
    unfolding are_by_trip
    first_words_2 =
        ap (λ k. take k u) (sym (as_long w))
        ∙ starts_with (words_by_trip (timetable_of w)) u (yes_10 w (length u) n (length old) own_2 none_2)

    back_there : BackAndThere w u n old k back
    unfolding by_trip_reply by_stop_reply by_trip_words
    back_there =
        record {
          asked = asked_2;
          replies = ap (λ x. reply_of x (line_count (timetable_of w))) (none_then_2 ∙ sym none_2);
          words =
              sym
              (words_done (by_trip_number w (by_stop_words w u n old) k (length back)) (words_by_trip (timetable_of w))
              back
              none_then_2)
              ∙ ap (λ x. put 0 x back) (sym first_words_2);
        }

pub claims : Claims
claims = record { lookups = same_lookups; there_and_back = there_back; back_and_there = back_there }
