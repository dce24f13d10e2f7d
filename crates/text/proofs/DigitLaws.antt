-- Few digits make a small number, so that reading one more never wraps.
use Prim.Native.Nat.{ℕ, zero, suc, ◌+◌, ◌*◌, ◌≤◌, ◌<◌}
use native.Mathlib.Numerals.{add-one}
use native.Mathlib.Omega.{arith}

-- a bound of the numbers of i digits
unfoldable pub tens : ℕ → ℕ
tens zero = 1
tens (suc i) = 10 * tens i

pub tens_more : (v d i : ℕ) → v < tens i → d < 10 → v * 10 + d < tens (i + 1)
unfolding tens
tens_more v d i h g = rw (add-one i) (omega arith)

pub at_most_three : (v i n : ℕ) → v < tens i → i < n → n ≤ 4 → v < 1000
unfolding tens
at_most_three v zero n h l g = omega arith
at_most_three v (suc zero) n h l g = omega arith
at_most_three v (suc (suc zero)) n h l g = omega arith
at_most_three v (suc (suc (suc zero))) n h l g = omega arith
at_most_three v (suc (suc (suc (suc i)))) n h l g = absurd (omega arith)
