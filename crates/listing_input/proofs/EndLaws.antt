-- Bytes after the last line end: none print nothing, and any others what a misshapen line prints.
use mathlib.Core.Path.{◌≡◌, refl, sym, ap, ◌∙◌}
use mathlib.Core.List.{List, [], ◌∷◌}
use Prim.Native.Nat.{ℕ}
use native.Mathlib.Omega.{arith}
use lib.ListN.{length}
use Rattle.std.specs.Prelude.{None}
use Rattle.listing_queries.specs.Query.{input_number}
use Rattle.words.specs.Put.{put, put_none}
use Rattle.listing_printing.specs.Lines.{misshapen_line}
use Rattle.listing_output.specs.Printed.{end_printed}

end_none : (bytes : List ℕ) → length bytes ≡ 0 → end_printed bytes ≡ []
end_none [] e = refl
end_none (b ∷ bytes) e = absurd (omega arith)

end_some : (bytes : List ℕ) → (length bytes ≡ 0 → ⊥) → end_printed bytes ≡ misshapen_line (input_number None)
end_some [] e = absurd (e refl)
end_some (b ∷ bytes) e = refl

module _ (bytes old : List ℕ) where
  pub none_ends : length bytes ≡ 0 → 0 ≡ length (end_printed bytes)
  none_ends e = sym (ap length (end_none bytes e))

  pub none_kept : length bytes ≡ 0 → old ≡ put 0 (end_printed bytes) old
  none_kept e = sym (ap (λ p. put 0 p old) (end_none bytes e) ∙ put_none 0 old)

  module _ (some : length bytes ≡ 0 → ⊥) where
    pub some_ends : (r : ℕ) → r ≡ length (misshapen_line (input_number None)) → r ≡ length (end_printed bytes)
    some_ends r e = e ∙ sym (ap length (end_some bytes some))

    pub some_written : (last : List ℕ) → last ≡ put 0 (misshapen_line (input_number None)) old
        → last ≡ put 0 (end_printed bytes) old
    some_written last e = e ∙ sym (ap (λ p. put 0 p old) (end_some bytes some))
