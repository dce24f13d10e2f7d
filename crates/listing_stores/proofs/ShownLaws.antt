-- A query that has no number of its own: it ends by that of the store call, or by the reply from the store.
use mathlib.Core.Path.{◌≡◌, sym, ap, ◌∙◌}
use mathlib.Core.List.{List}
use Prim.Native.Nat.{ℕ}
use borrow.Author.Tests.{ne_eqb}
use lib.ListN.{length, replicate, length-replicate}
use Rattle.words.specs.Put.{put}
use Rattle.replies.specs.Reply.{Reply}
use Rattle.replies.specs.Reply.{Done, Refused}
use Rattle.replies.specs.Replies.{number_of}
use Rattle.lines_check.specs.Asked.{query_number}
use Rattle.promises.specs.Query.{ask_reply, ask_words}
use Rattle.listing_printing.specs.Lines.{refused_line, answered}
use Rattle.listing_output.specs.Printed.{printed_number, made_number, store_slice, reply, answer_slice, query_prints}
use Rattle.listing_output.specs.Printed.{query_printed, reply_refused}

module _ (w v : List ℕ) (from to minute n : ℕ) (space : n ≡ 16384) where
  -- the reply from the store
  module _ (own-zero : query_number w v 16384 from to minute ≡ 0) (made-zero : made_number w v from ≡ 0)
      (store answer₀ : List ℕ) (stored : store ≡ store_slice w v from) (zeros : answer₀ ≡ replicate 16384 0)
      (r : Reply) (is : r ≡ ask_reply w v store n from to minute (length answer₀))
    where
      reply_is : reply w v from to minute ≡ r
      unfolding reply
      reply_is =
          let long : length answer₀ ≡ 16384 = ap length zeros ∙ length-replicate {A = ℕ} 16384 0 in
          sym (is ∙ (λ i. ask_reply w v (stored i) (space i) from to minute (long i)))

      prints_is : query_prints w v from to minute ≡ number_of r
      unfolding query_prints printed_number
      prints_is = rw (own-zero, made-zero) (ap number_of reply_is)

      module _ (count : ℕ) (done : r ≡ Done count) (answer : List ℕ)
          (words : answer ≡ ask_words w v store n from to minute answer₀) where
        slice_is : answer ≡ answer_slice w v from to minute
        unfolding answer_slice
        slice_is = words ∙ (λ i. ask_words w v (stored i) (space i) from to minute (zeros i))

        done_is : answered from to minute count answer ≡ query_printed w v from to minute
        unfolding query_printed
        done_is =
            rw (prints_is ∙ ap number_of done, reply_is, done, slice_is)

        pub done_count : (k : ℕ) → k ≡ length (answered from to minute count answer)
            → k ≡ length (query_printed w v from to minute)
        done_count k e = e ∙ ap length done_is

        pub done_words : (old last : List ℕ) → last ≡ put 0 (answered from to minute count answer) old
            → last ≡ put 0 (query_printed w v from to minute) old
        done_words old last e = e ∙ ap (λ b. put 0 b old) done_is

      module _ (number : ℕ) (refused : r ≡ Refused number) where
        refused_is : refused_line from to minute number ≡ query_printed w v from to minute
        unfolding query_printed
        refused_is =
            let some : number ≡ 0 → ⊥ = reply_refused w v from to minute number (sym refused ∙ sym reply_is) in
            rw (prints_is ∙ ap number_of refused, ne_eqb number 0 some)

        -- the code has the number from the question
        module _ (told : ℕ) (same : told ≡ number) where
          told_is : refused_line from to minute told ≡ query_printed w v from to minute
          told_is = ap (refused_line from to minute) same ∙ refused_is

          pub refused_count : (k : ℕ) → k ≡ length (refused_line from to minute told)
              → k ≡ length (query_printed w v from to minute)
          refused_count k e = e ∙ ap length told_is

          pub refused_words : (old last : List ℕ) → last ≡ put 0 (refused_line from to minute told) old
              → last ≡ put 0 (query_printed w v from to minute) old
          refused_words old last e = e ∙ ap (λ b. put 0 b old) told_is

-- the number of the store call
module _ (w v : List ℕ) (from to minute : ℕ) (own-zero : query_number w v 16384 from to minute ≡ 0)
    (made : ℕ) (is : made ≡ made_number w v from) (some : made ≡ 0 → ⊥)
  where
    second_is : refused_line from to minute made ≡ query_printed w v from to minute
    unfolding query_printed query_prints printed_number
    second_is = rw (own-zero, ← is, ne_eqb made 0 some, ne_eqb made 0 some)

    pub second_count : (r : ℕ) → r ≡ length (refused_line from to minute made)
        → r ≡ length (query_printed w v from to minute)
    second_count r e = e ∙ ap length second_is

    pub second_words : (old last : List ℕ) → last ≡ put 0 (refused_line from to minute made) old
        → last ≡ put 0 (query_printed w v from to minute) old
    second_words old last e = e ∙ ap (λ b. put 0 b old) second_is
