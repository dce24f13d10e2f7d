-- The ways out of `show`: no connection, too little room, or the rows written.
use mathlib.Core.Path.{◌≡◌, refl, sym, ap, ◌∙◌}
use mathlib.Core.Bool.{Bool, true, false}
use mathlib.Core.List.{List, [], ◌∷◌}
use Prim.Native.Nat.{ℕ, ◌≤◌, ◌<◌}
use native.Mathlib.Omega.{arith}
use borrow.Author.Tests.{le-leb, lt-leb}
use lib.Dec.{leb}
use lib.ListN.{length}
use Rattle.words.specs.Put.{put}
use Rattle.questions.specs.Question.{ask, first_no}
use Rattle.replies.specs.Reply.{Done, Refused}
use Rattle.replies.specs.Replies.{reply_done, reply_refused, words_done, words_kept}
use Rattle.query_minutes.specs.Minutes.{no_points, leads}
use Rattle.promises.specs.Query.{kept, rows, row_words}
use Rattle.query_arcs.specs.Kept.{LeastKept}
use Rattle.query_rows.specs.Leading.{leads_count, leads_none, leads_some}
use Rattle.query_arcs.specs.Granted.{Granted, all_bounds}
use Rattle.query_rows.proofs.PassLaws.{rows_are}
use Rattle.query_answer.specs.Answer.{shown_number, shown_reply, shown_words}

module _
    (w v s best : List ℕ)
    (a b u count : ℕ)
    (g : Granted w v s a b u)
    (is_least : LeastKept u (kept w s a b u) best)
    (is : count ≡ length (leads no_points 0 best))
  where
    number_is : (m : ℕ) (x y : Bool) → leb 1 (length (kept w s a b u)) ≡ x
        → leb (length (row_words (rows w s a b u))) m ≡ y → shown_number w s a b u m ≡ first_no
        (ask 14 x ∷ ask 15 y ∷ [])
    unfolding shown_number
    number_is m x y e f = λ i. first_no (ask 14 (e i) ∷ ask 15 (f i) ∷ [])

    module _ (gone : count < 1) where
      none : leb 1 (length (kept w s a b u)) ≡ false
      none =
          let e = leads_none u (kept w s a b u) (all_bounds w v s a b u g) best is_least (omega arith) in
          lt-leb 1 (length (kept w s a b u)) (omega (arith, e))

      fourteen : (m : ℕ) → 14 ≡ shown_number w s a b u m
      fourteen m = sym (number_is m false _ none refl)

      pub none_reply : (m : ℕ) → Refused 14 ≡ shown_reply w s a b u m
      unfolding shown_reply
      none_reply m = reply_refused (shown_number w s a b u m) (length (rows w s a b u)) 13 (fourteen m)

      pub none_words : (old : List ℕ) → old ≡ shown_words w s a b u old
      unfolding shown_words
      none_words old =
          words_kept (shown_number w s a b u (length old)) (row_words (rows w s a b u)) old 13 (fourteen (length old))

    module _ (more : 1 ≤ count) where
      some : leb 1 (length (kept w s a b u)) ≡ true
      some =
          le-leb 1 (length (kept w s a b u))
          (leads_some u (kept w s a b u) (all_bounds w v s a b u g) best is_least (omega arith))

      module _ (long : ℕ) (measured : long ≡ length (row_words (rows w s a b u))) where
        module _ (m : ℕ) (short : m < long) where
          fifteen : 15 ≡ shown_number w s a b u m
          fifteen =
              let no : leb (length (row_words (rows w s a b u))) m ≡ false =
              lt-leb (length (row_words (rows w s a b u))) m (omega arith) in
              sym (number_is m true false some no)

          pub short_reply : Refused 15 ≡ shown_reply w s a b u m
          unfolding shown_reply
          short_reply = reply_refused (shown_number w s a b u m) (length (rows w s a b u)) 14 fifteen

        pub short_words : (old : List ℕ) → length old < long → old ≡ shown_words w s a b u old
        unfolding shown_words
        short_words old short =
            words_kept (shown_number w s a b u (length old)) (row_words (rows w s a b u)) old 14
            (fifteen (length old) short)

        enough : (m : ℕ) → long ≤ m → shown_number w s a b u m ≡ 0
        enough m room =
            number_is m true true some (le-leb (length (row_words (rows w s a b u))) m (omega arith))

        pub done_reply : (m : ℕ) → long ≤ m → Done count ≡ shown_reply w s a b u m
        unfolding shown_reply
        done_reply m room =
            let all = leads_count u (kept w s a b u) (all_bounds w v s a b u g) best is_least in
            ap Done (is ∙ all ∙ ap length (sym (rows_are w s a b u)))
            ∙ reply_done (shown_number w s a b u m) (length (rows w s a b u)) (enough m room)

        pub done_words : (old new : List ℕ) → long ≤ length old → new ≡ put 0 (row_words (rows w s a b u)) old
            → new ≡ shown_words w s a b u old
        unfolding shown_words
        done_words old new room e =
            e
            ∙ words_done (shown_number w s a b u (length old)) (row_words (rows w s a b u)) old
            (enough (length old) room)

-- what was measured fits
pub rows_room : (long rows room : ℕ) → long ≡ rows → long ≤ room → rows ≤ room
rows_room long rows room is fits = omega (arith, is)
