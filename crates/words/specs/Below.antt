-- Numbers below a bound, so that each fits a word of some width.
use mathlib.Core.List.{List, [], ◌∷◌, ◌++◌, map}
use Prim.Native.Nat.{ℕ, zero, suc, ◌≤◌, ◌<◌}
use Rattle.std.proofs.Common.{arith}
use Rattle.std.specs.Prelude.{length, get_or, take}

-- each number of the list is below m
unfoldable pub Below : ℕ → List ℕ → Type 0
Below m [] = Unit {0}
Below m (x ∷ l) = (x < m) × Below m l

module _ (m : ℕ) where
  pub below_none : Below m []
  unfolding Below
  below_none = tt

  pub below_more : (x : ℕ) (l : List ℕ) → x < m → Below m l → Below m (x ∷ l)
  unfolding Below
  below_more x l h b = (h, b)

  pub below_append : (a b : List ℕ) → Below m a → Below m b → Below m (a ++ b)
  unfolding Below
  below_append [] b x y = y
  below_append (z ∷ a) b x y = (x.0, below_append a b x.1 y)

  pub below_map : (f : ℕ → ℕ) (l : List ℕ) → ((j : ℕ) → j < length l → f (get_or l j 0) < m) → Below m (map f l)
  unfolding Below
  below_map f [] h = tt
  below_map f (x ∷ l) h = (h 0 (omega arith), below_map f l (λ j g. h (suc j) (omega arith)))

  -- a number among the first n
  pub below_taken : (src : List ℕ) (n j : ℕ) → Below m (take n src) → j < n → n ≤ length src → get_or src j 0 < m
  unfolding Below
  below_taken [] zero j b h g = absurd (omega arith)
  below_taken [] (suc n) j b h g = absurd (omega arith)
  below_taken (x ∷ l) zero j b h g = absurd (omega arith)
  below_taken (x ∷ l) (suc n) zero b h g = b.0
  below_taken (x ∷ l) (suc n) (suc j) b h g = below_taken l n j b.1 (omega arith) (omega arith)

  -- each number of the list
  pub below_each : (src : List ℕ) (j : ℕ) → Below m src → j < length src → get_or src j 0 < m
  unfolding Below
  below_each [] j b h = absurd (omega arith)
  below_each (x ∷ l) zero b h = b.0
  below_each (x ∷ l) (suc j) b h = below_each l j b.1 (omega arith)
