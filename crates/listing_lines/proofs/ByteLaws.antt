-- The first 17 bytes of a line are kept, one after the other.
use mathlib.Core.Path.{◌≡◌, sym, ap, ◌∙◌}
use mathlib.Core.List.{List, [], ◌∷◌, ◌++◌}
use Prim.Native.Nat.{ℕ, ◌+◌, ◌≤◌, ◌<◌}
use native.Mathlib.Omega.{arith}
use native.Mathlib.Numerals.{add-one}
use lib.ListN.{length, set, take, length-append, length-take}
use lib.Seq.{take_all, take-append-le, take-suc-set}

module _ (line : List ℕ) (kept b : ℕ) (long : length line ≡ 17) where
  pub kept_more : kept < 17 → take (kept + 1) (set line kept b) ≡ take 17 (take kept line ++ b ∷ [])
  kept_more h =
      let short : length (take kept line ++ b ∷ []) ≤ 17 = simp (length-append, length-take) (omega arith) in
      ap (λ n. take n (set line kept b)) (add-one kept)
      ∙ take-suc-set line kept b (omega arith)
      ∙ sym (take_all 17 (take kept line ++ b ∷ []) short)

  pub kept_full : kept ≤ 17 → 17 ≤ kept → take kept line ≡ take 17 (take kept line ++ b ∷ [])
  kept_full h g =
      let all : length (take kept line) ≡ 17 = simp length-take (omega arith) in
      sym
      (take-append-le 17 (take kept line) (b ∷ []) (omega (arith, all))
      ∙ take_all 17 (take kept line) (omega (arith, all)))
