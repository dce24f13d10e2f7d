-- The store call question by question: 8 to 11 come first, and where they all have their yes the store is made, and
-- question 15 alone is left.
use Rattle.std.specs.Prelude.{◌≡◌, refl, Bool, true, false, not, List, [], ◌∷◌, leb, length, take}
use Rattle.std.proofs.Math.Path.{sym, ap}
use Rattle.std.proofs.Common.{◌∙◌, length-take-le}
use Prim.Native.Nat.{ℕ, zero, suc, ◌≤◌}
use native.Mathlib.Omega.{arith}
use borrow.Author.Tests.{leb-true, not-true, not-false}
use Rattle.questions.specs.Question.{ask, first_no, yes_here, yes_later}
use Rattle.lists.specs.Tests.{and_left, and_right}
use Rattle.replies.specs.Reply.{Reply}
use Rattle.replies.specs.Reply.{Refused}
use Rattle.replies.specs.Replies.{reply_of, words_after, reply_refused, words_kept}
use Rattle.replies.specs.Later.{asked_on, asked_out}
use Rattle.timetable.specs.Words.{timetable_of, station_count, is_timetable}
use Rattle.timetable.specs.Check.{length_stations}
use Rattle.timetable.specs.Access.{stations_few}
use Rattle.lines_check.specs.Question10.{are_tables, tables_questions, tables_number}
use Rattle.lines_check.specs.Asked.{listed}
use Rattle.lines_check.specs.Yes.{Long, long, long_all, tables_asked}
use Rattle.promises.specs.StoreCall.{store_of, fits, store_number, store_reply, store_after}

-- where questions 8 to 11 have their yes
unfoldable pub made_number : (w : List ℕ) (a m : ℕ) → ℕ
made_number w a m = first_no (ask 15 (fits w a m) ∷ [])

unfoldable pub made_reply : (w : List ℕ) (a m : ℕ) → Reply
made_reply w a m = reply_of (made_number w a m) (length (store_of w a))

unfoldable pub made_after : (w : List ℕ) (a : ℕ) (old : List ℕ) → List ℕ
made_after w a old = words_after (made_number w a (length old)) (store_of w a) old

module _ (w v : List ℕ) (n a : ℕ) where
  -- ---- a refusal
  module _ (k : ℕ) (is : (m : ℕ) → suc k ≡ store_number w v n a m) where
    refused_reply : (m : ℕ) → Refused (suc k) ≡ store_reply w v n a m
    unfolding store_reply
    refused_reply m = reply_refused (store_number w v n a m) (length (store_of w a)) k (is m)

    refused_words : (old : List ℕ) → old ≡ store_after w v n a old
    unfolding store_after
    refused_words old = words_kept (store_number w v n a (length old)) (store_of w a) old k (is (length old))

  module _ (number : ℕ) (is : number ≡ tables_number w v n) where
    -- questions 8 to 10
    module _ (denied : number ≡ 0 → ⊥) where
      same_no : (k : ℕ) → k ≡ tables_number w v n → (k ≡ 0 → ⊥) → (m : ℕ) → k ≡ store_number w v n a m
      unfolding store_number tables_number
      same_no zero e h m = absurd (h refl)
      same_no (suc k) e h m =
          sym
          (asked_out (tables_questions w v n) (ask 11 (listed (timetable_of w) a) ∷ ask 15 (fits w a m) ∷ [])
          (tables_asked w v n) k e)

      pub asked_reply : (m : ℕ) → Refused number ≡ store_reply w v n a m
      asked_reply m = go number is denied
        where
          go : (k : ℕ) → k ≡ tables_number w v n → (k ≡ 0 → ⊥) → Refused k ≡ store_reply w v n a m
          go zero e h = absurd (h refl)
          go (suc k) e h = refused_reply k (same_no (suc k) e h) m

      pub asked_words : (old : List ℕ) → old ≡ store_after w v n a old
      asked_words old = go number is denied
        where
          go : (k : ℕ) → k ≡ tables_number w v n → (k ≡ 0 → ⊥) → old ≡ store_after w v n a old
          go zero e h = absurd (h refl)
          go (suc k) e h = refused_words k (same_no (suc k) e h) old

    module _ (none_denied : number ≡ 0) where
      tables_yes : first_no (tables_questions w v n) ≡ 0
      unfolding tables_number
      tables_yes = sym is ∙ none_denied

      pub slices : Long w v n
      slices =
          long_all w v n
          (yes_here 7 (long w v n) (ask 9 (is_timetable w) ∷ ask 10 (are_tables w v) ∷ []) tables_yes)

      pub accepted : is_timetable w ≡ true
      accepted =
          let nine = yes_later 7 (long w v n) (ask 9 (is_timetable w) ∷ ask 10 (are_tables w v) ∷ []) tables_yes in
          yes_here 8 (is_timetable w) (ask 10 (are_tables w v) ∷ []) nine

      pub words_room : 16384 ≤ length w
      words_room = slices.words

      pub work_room : 16384 ≤ n
      work_room = slices.work

      same_later : (m : ℕ)
          → store_number w v n a m ≡ first_no (ask 11 (listed (timetable_of w) a) ∷ ask 15 (fits w a m) ∷ [])
      unfolding store_number
      same_later m =
          asked_on (tables_questions w v n) (ask 11 (listed (timetable_of w) a) ∷ ask 15 (fits w a m) ∷ [])
          (tables_asked w v n) tables_yes

      -- question 11
      module _ (b : Bool) (told : b ≡ listed (timetable_of w) a) (unknown : not b ≡ true) where
        no_source : (m : ℕ) → 11 ≡ store_number w v n a m
        no_source m = rw (same_later m, sym told ∙ not-true b unknown)

        pub unlisted_reply : (m : ℕ) → Refused 11 ≡ store_reply w v n a m
        unlisted_reply m = refused_reply 10 no_source m

        pub unlisted_words : (old : List ℕ) → old ≡ store_after w v n a old
        unlisted_words old = refused_words 10 no_source old

      module _ (b : Bool) (told : b ≡ listed (timetable_of w) a) (found : not b ≡ false) where
        known : listed (timetable_of w) a ≡ true
        known = sym told ∙ not-false b found

        pub source_some : 1 ≤ a
        unfolding listed
        source_some = leb-true 1 a (and_left (leb 1 a) (leb a (length (timetable_of w).stations)) known)

        pub source_listed : a ≤ station_count w
        unfolding listed
        source_listed =
            omega (
              arith,
              leb-true a (length (timetable_of w).stations)
                  (and_right (leb 1 a) (leb a (length (timetable_of w).stations)) known),
              length_stations w,
            )

        pub source_few : a ≤ 64
        source_few = omega (arith, source_listed, stations_few w accepted)

        -- question 15
        same_number : (m : ℕ) → made_number w a m ≡ store_number w v n a m
        unfolding made_number
        same_number m = sym (same_later m ∙ ap (λ t. first_no (ask 11 t ∷ ask 15 (fits w a m) ∷ [])) known)

        pub made_reply_lem : (m : ℕ) (r : Reply) → r ≡ made_reply w a m → r ≡ store_reply w v n a m
        unfolding made_reply store_reply
        made_reply_lem m r e = e ∙ ap (λ k. reply_of k (length (store_of w a))) (same_number m)

        pub made_words : (old new : List ℕ) → new ≡ made_after w a old → new ≡ store_after w v n a old
        unfolding made_after store_after
        made_words old new e = e ∙ ap (λ k. words_after k (store_of w a) old) (same_number (length old))

-- working space is as long as the questions asked for
module _ (w v work after : List ℕ) (number : ℕ) (is : number ≡ tables_number w v (length work))
    (none_denied : number ≡ 0) (kept : length after ≡ length work) where
  pub space_room : 16384 ≤ length after
  space_room = omega (arith, work_room w v (length work) 0 number is none_denied)

  pub space_part : length (take 16384 after) ≡ 16384
  space_part = length-take-le 16384 after space_room
