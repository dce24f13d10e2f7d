-- What a line of the input prints, by what it asks.
use mathlib.Core.Path.{◌≡◌, sym, ap, ◌∙◌}
use mathlib.Core.List.{List}
use Prim.Native.Nat.{ℕ}
use lib.ListN.{length}
use Rattle.words.specs.Put.{put}
use Rattle.std.specs.Prelude.{Option, Some, None}
use Rattle.listing_queries.specs.declared.Query.{Query}
use Rattle.listing_queries.specs.Query.{input_number, query_of}
use Rattle.listing_printing.specs.Lines.{misshapen_line}
use Rattle.listing_output.specs.Printed.{query_printed, input_printed, line_printed}

module _ (w v line : List ℕ) (input : Option Query) (is : input ≡ query_of line) where
  module _ (query : Query) (asked : input ≡ Some query) where
    query_is : query_printed w v query.from query.to query.minute ≡ line_printed w v line
    unfolding line_printed
    query_is = ap (input_printed w v) (sym asked ∙ is)

    pub asked_count : (r : ℕ) → r ≡ length (query_printed w v query.from query.to query.minute)
        → r ≡ length (line_printed w v line)
    asked_count r e = e ∙ ap length query_is

    pub asked_words : (old last : List ℕ)
        → last ≡ put 0 (query_printed w v query.from query.to query.minute) old
        → last ≡ put 0 (line_printed w v line) old
    asked_words old last e = e ∙ ap (λ b. put 0 b old) query_is

  module _ (no : input ≡ None) where
    misshapen_is : misshapen_line (input_number None) ≡ line_printed w v line
    unfolding line_printed
    misshapen_is = ap (input_printed w v) (sym no ∙ is)

    pub misshapen_count : (r : ℕ) → r ≡ length (misshapen_line (input_number None))
        → r ≡ length (line_printed w v line)
    misshapen_count r e = e ∙ ap length misshapen_is

    pub misshapen_words : (old last : List ℕ) → last ≡ put 0 (misshapen_line (input_number None)) old
        → last ≡ put 0 (line_printed w v line) old
    misshapen_words old last e = e ∙ ap (λ b. put 0 b old) misshapen_is
