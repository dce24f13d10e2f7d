-- The loop over walks that counts those from stations up to one.
use mathlib.Core.Path.{◌≡◌, ap, ◌∙◌}
use mathlib.Core.Bool.{Bool, true, false, cond}
use mathlib.Core.List.{List}
use Prim.Native.Nat.{ℕ, suc, ◌+◌, ◌*◌, ◌≤◌, ◌<◌}
use native.Mathlib.Nat.{sub-zero}
use native.Mathlib.Omega.{arith}
use borrow.Author.Tests.{le-leb, lt-leb}
use lib.Dec.{leb}
use lib.ListN.{get_or}
use Rattle.timetable.specs.Words.{count_to, walk_in, walks_in}
use Rattle.timetable.specs.Check.{between, between_more, between_none}

-- ---- one walk
module _ (from y : ℕ) where
  pub one_up_to : from ≤ y → ◌≡◌ {A = ℕ} 1 (cond (leb from y) 1 0)
  one_up_to h = simp (le-leb from y h)

  pub none_up_to : y < from → ◌≡◌ {A = ℕ} 0 (cond (leb from y) 1 0)
  none_up_to h = simp (lt-leb from y h)

-- ---- one walk after the other
module _ (w : List ℕ) (p n y k count : ℕ)
    (so_far : count_to (between (walk_in w p) 0 n) y ≡ count + count_to (between (walk_in w p) k n) y) where
  pub count_done : n ≤ k → count ≡ count_to (walks_in w p n) y
  unfolding count_to between
  count_done h =
      let none : count_to (between (walk_in w p) k n) y ≡ 0 =
      ap (λ l. count_to l y) (between_none (walk_in w p) k n h) in
      let all : count_to (between (walk_in w p) 0 n) y ≡ count_to (walks_in w p n) y = rw sub-zero in
      omega (arith, so_far, none, all)

  pub count_more : k < n → (from one : ℕ) → from ≡ get_or w (p + 4 * k) 0 → one ≡ cond (leb from y) 1 0
      → count_to (between (walk_in w p) 0 n) y ≡ count + one + count_to (between (walk_in w p) (k + 1) n) y
  unfolding count_to walk_in
  count_more h from one e f =
      let rest : ℕ = count_to (between (walk_in w p) (k + 1) n) y in
      let next : count_to (between (walk_in w p) k n) y ≡ cond (leb from y) (suc rest) rest =
      ap (λ l. count_to l y) (between_more (walk_in w p) k n h) ∙ rw (← e) in
      omega (arith, so_far, next, f, by_test (leb from y) rest)
    where
      by_test : (b : Bool) (m : ℕ) → cond b (suc m) m ≡ cond b 1 0 + m
      by_test true m = omega arith
      by_test false m = omega arith
