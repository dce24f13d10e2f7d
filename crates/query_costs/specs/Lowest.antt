-- The least penalty so far, minute by minute: who is ready at a minute is ready at each later one.
use Rattle.std.specs.Prelude.{◌≡◌, refl, ◌⊎◌, length}
use Rattle.std.proofs.Common.{◌∙◌}
use Rattle.std.proofs.Math.Logic.{inl, inr}
use mathlib.Core.List.{List, [], ◌∷◌}
use Prim.Native.Nat.{ℕ, zero, suc, ◌≤◌, ◌<◌, min}
use native.Mathlib.Omega.{arith, min_cases}
use Rattle.std.proofs.Math.ListN.{get_or}

-- each number lowered to the least of those before it, `least` standing before the first
unfoldable pub lowest : (least : ℕ) → List ℕ → List ℕ
lowest least [] = []
lowest least (x ∷ l) = min least x ∷ lowest (min least x) l

pub length_lowest : (least : ℕ) (l : List ℕ) → length (lowest least l) ≡ length l
unfolding lowest
length_lowest least [] = refl
length_lowest least (x ∷ l) = omega (arith, length_lowest (min least x) l)

-- numbers are read with d past the end
module _ (d : ℕ) where
  pub lowest_least : (l : List ℕ) (least m : ℕ) → m < length l → get_or (lowest least l) m d ≤ least
  unfolding lowest
  lowest_least [] least m h = absurd (omega arith)
  lowest_least (x ∷ l) least zero h = omega arith
  lowest_least (x ∷ l) least (suc m) h = omega (arith, lowest_least l (min least x) m (omega arith))

  -- below all that stand before
  pub lowest_below : (l : List ℕ) (least j m : ℕ) → j ≤ m → m < length l → get_or (lowest least l) m d ≤ get_or l j d
  unfolding lowest
  lowest_below [] least j m g h = absurd (omega arith)
  lowest_below (x ∷ l) least zero zero g h = omega arith
  lowest_below (x ∷ l) least zero (suc m) g h = omega (arith, lowest_least l (min least x) m (omega arith))
  lowest_below (x ∷ l) least (suc j) zero g h = absurd (omega arith)
  lowest_below (x ∷ l) least (suc j) (suc m) g h = lowest_below l (min least x) j m (omega arith) (omega arith)

  -- and never above what was the least before
  pub lowest_falls : (l : List ℕ) (least j m : ℕ) → j ≤ m → m < length l
      → get_or (lowest least l) m d ≤ get_or (lowest least l) j d
  unfolding lowest
  lowest_falls [] least j m g h = absurd (omega arith)
  lowest_falls (x ∷ l) least zero zero g h = omega arith
  lowest_falls (x ∷ l) least zero (suc m) g h = lowest_least l (min least x) m (omega arith)
  lowest_falls (x ∷ l) least (suc j) zero g h = absurd (omega arith)
  lowest_falls (x ∷ l) least (suc j) (suc m) g h = lowest_falls l (min least x) j m (omega arith) (omega arith)

  -- the number p stands at place m or before it
  pub record Before (l : List ℕ) (m p : ℕ) : Type 0 where
    pub place : ℕ
    pub before : place ≤ m
    pub is : get_or l place d ≡ p

  pub lowest_stems : (l : List ℕ) (least m : ℕ) → m < length l
      → (get_or (lowest least l) m d ≡ least) ⊎ Before l m (get_or (lowest least l) m d)
  unfolding lowest
  lowest_stems [] least m h = absurd (omega arith)
  lowest_stems (x ∷ l) least zero h =
      min_cases
      least
      x
      ((min least x ≡ least) ⊎ Before (x ∷ l) 0 (min least x))
      (λ p q. inl q)
      (λ p q. inr (record { place = 0; before = omega arith; is = omega (arith, q) }))
  lowest_stems (x ∷ l) least (suc m) h = go (lowest_stems l (min least x) m (omega arith))
    where
      p : ℕ
      p = get_or (lowest (min least x) l) m d

      go : (p ≡ min least x) ⊎ Before l m p → (p ≡ least) ⊎ Before (x ∷ l) (suc m) p
      go (inr b) =
          inr (record { place = suc b.place; before = omega (arith, b.before); is = b.is })
      go (inl e) =
          min_cases
          least
          x
          ((p ≡ least) ⊎ Before (x ∷ l) (suc m) p)
          (λ g q. inl (e ∙ q))
          (λ g q. inr (record { place = 0; before = omega arith; is = omega (arith, e, q) }))
