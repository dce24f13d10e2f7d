-- Ranges of numbers: how many they are, and the first of them before the others.
use Rattle.std.specs.Prelude.{◌≡◌, refl, [], ◌∷◌, ℕ, zero, suc, ◌+◌, ◌-◌, ◌≤◌, ◌<◌, length}
use Rattle.std.proofs.Common.{ap, add-one, arith}
use Rattle.lists.specs.Lists.{range}

pub length_range : (i n : ℕ) → length (range i n) ≡ n
length_range i zero = refl
length_range i (suc n) = ap suc (length_range (suc i) n)

-- from k up to n, and from n on
pub range_more : (k n : ℕ) → k < n → range k (n - k) ≡ k ∷ range (k + 1) (n - (k + 1))
range_more k n h =
    let some : n - k ≡ suc (n - (k + 1)) = omega arith in
    rw (some, add-one k)

pub range_none : (k n : ℕ) → n ≤ k → range k (n - k) ≡ []
range_none k n h =
    let none : n - k ≡ 0 = omega arith in
    rw none
