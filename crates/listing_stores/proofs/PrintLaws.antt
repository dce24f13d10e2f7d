-- The rows after the line of a query.
use mathlib.Core.Path.{◌≡◌, refl, ◌∙◌}
use mathlib.Core.List.{List}
use Prim.Native.Nat.{ℕ, ◌+◌, ◌≤◌}
use native.Mathlib.Omega.{arith}
use lib.ListN.{length, length-append}
use Rattle.words.specs.Put.{put, put_append}
use Rattle.listing_printing.specs.Lines.{query_line, lines_from, answered}

module _ (from to minute rows at : ℕ) (old first answer : List ℕ)
    (place : at ≡ 0 + length (query_line from to minute rows))
    (begun : first ≡ put 0 (query_line from to minute rows) old)
    (most : at ≤ 46) (long : length old ≡ 196654) where
  pub rows_end : (r : ℕ) → r ≡ at + length (lines_from answer rows 0)
      → r ≡ length (answered from to minute rows answer)
  unfolding answered
  rows_end r e = omega (arith, length-append (query_line from to minute rows) (lines_from answer rows 0))

  pub rows_words : (last : List ℕ) → last ≡ put at (lines_from answer rows 0) first
      → last ≡ put 0 (answered from to minute rows answer) old
  unfolding answered
  rows_words last e =
      e
      ∙ (λ i. put (place i) (lines_from answer rows 0) (begun i))
      ∙ put_append 0 (length (query_line from to minute rows)) (query_line from to minute rows)
      (lines_from answer rows 0) old refl (omega arith)
