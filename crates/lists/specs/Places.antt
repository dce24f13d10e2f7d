-- What stands at a place of a list.
use Rattle.std.specs.Prelude.{◌≡◌, refl, List, [], ◌∷◌, ℕ, zero, suc, ◌≤◌, ◌<◌, length, get_or, take, drop}
use Rattle.std.proofs.Common.{sym, ap, ◌∙◌, arith, drop-cons, get_or-take, length-take-le}
use mathlib.Core.List.Memᴰ.{head as here}
use mathlib.Core.List.Memᴰ.{tail as there}
use Rattle.std.proofs.Math.ListN.{get_or-eq_default}
use Rattle.lists.specs.Lists.{◌∈◌}

module _ {A : Type 0} where
  pub get_d_in : (l : List A) (i : ℕ) (d : A) → i < length l → get_or l i d ∈ l
  get_d_in [] i d h = absurd (omega arith)
  get_d_in (x ∷ l) zero d h = here refl
  get_d_in (x ∷ l) (suc i) d h = there (get_d_in l i d (omega arith))

  pub no_length : (l : List A) → length l ≡ 0 → l ≡ []
  no_length [] e = refl
  no_length (x ∷ l) e = absurd (omega arith)

-- a place past the end counts as 0
pub past : (l : List ℕ) (i : ℕ) → length l ≤ i → 0 ≡ get_or l i 0
past l i h = sym (get_or-eq_default l 0 {n = i} h)

-- one of the first n numbers, and those of them that follow it
pub drop_taken : (n i : ℕ) (l : List ℕ) → n ≤ length l → i < n
    → drop i (take n l) ≡ get_or l i 0 ∷ drop (suc i) (take n l)
drop_taken n i l long h =
    drop-cons (take n l) i 0 (omega (arith, length-take-le n l long))
    ∙ ap (λ x. x ∷ drop (suc i) (take n l)) (get_or-take n l i 0 h)
