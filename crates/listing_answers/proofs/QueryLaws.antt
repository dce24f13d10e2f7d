-- A query that ends by its own number, and one that has none.
use mathlib.Core.Path.{◌≡◌, sym, ap, ◌∙◌}
use mathlib.Core.List.{List}
use Prim.Native.Nat.{ℕ}
use borrow.Author.Tests.{ne_eqb}
use lib.ListN.{length}
use Rattle.words.specs.Put.{put}
use Rattle.lines_check.specs.Asked.{query_number}
use Rattle.listing_printing.specs.Lines.{refused_line}
use Rattle.listing_output.specs.Printed.{printed_number, query_prints, query_printed}

module _ (w v : List ℕ) (from to minute n : ℕ) (space : n ≡ 16384) where
  -- the query's own number
  module _ (number : ℕ) (asked : number ≡ query_number w v n from to minute) where
    own : query_number w v 16384 from to minute ≡ number
    own = sym (asked ∙ ap (λ m. query_number w v m from to minute) space)

    module _ (some : number ≡ 0 → ⊥) where
      first_is : refused_line from to minute number ≡ query_printed w v from to minute
      unfolding query_printed query_prints printed_number
      first_is = rw (own, ne_eqb number 0 some, ne_eqb number 0 some)

      -- the code has the number from the question
      module _ (told : ℕ) (same : told ≡ number) where
        told_is : refused_line from to minute told ≡ query_printed w v from to minute
        told_is = ap (refused_line from to minute) same ∙ first_is

        pub first_count : (r : ℕ) → r ≡ length (refused_line from to minute told)
            → r ≡ length (query_printed w v from to minute)
        first_count r e = e ∙ ap length told_is

        pub first_words_lem : (old last : List ℕ) → last ≡ put 0 (refused_line from to minute told) old
            → last ≡ put 0 (query_printed w v from to minute) old
        first_words_lem old last e = e ∙ ap (λ b. put 0 b old) told_is

    module _ (none : number ≡ 0) where
      pub own_none : query_number w v 16384 from to minute ≡ 0
      own_none = own ∙ none
