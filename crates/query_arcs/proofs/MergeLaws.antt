-- A minute merged, where what stands there is read as a value.
use mathlib.Core.Path.{◌≡◌, ◌∙◌, ap}
use mathlib.Core.List.{List}
use Prim.Native.Nat.{ℕ, min}
use lib.ListN.{set}
use Rattle.query_arcs.specs.Merged.{sole_of}

pub least_stored : (old new : List ℕ) (m l x y : ℕ) → new ≡ set old m l → l ≡ min x y
    → (a b : ℕ) → x ≡ a → y ≡ b → new ≡ set old m (min a b)
least_stored old new m l x y e f a b g h = e ∙ ap (set old m) (f ∙ (λ i. min (g i) (h i)))

pub sole_stored : (old : List ℕ) (k m o r x y : ℕ) → r ≡ sole_of k x o y → (a b c : ℕ) → x ≡ a → o ≡ c → y ≡ b
    → set old m r ≡ set old m (sole_of k a c b)
sole_stored old k m o r x y e a b c f g h = ap (set old m) (e ∙ (λ i. sole_of k (f i) (g i) (h i)))
