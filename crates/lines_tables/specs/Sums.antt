-- Sums over lists. Distinct numbers of n from i on sum to at most what all of these do: leave out i, and the others are
-- of those from i + 1 on.
use Rattle.std.specs.Prelude.{◌≡◌, ℕ, zero, suc, ◌+◌, ◌≤◌, ◌<◌, eqb, length, get_or}
use Rattle.std.proofs.Math.Path.{refl}
use Rattle.std.proofs.Common.{ap, eqb→eq, T_not, length-append}
use mathlib.Core.List.Memᴰ
use mathlib.Core.List.Memᴰ.{head as here}
use mathlib.Core.List.{List, [], ◌∷◌, ◌++◌}
use native.Mathlib.Omega.{arith}
use Rattle.lists.specs.Lists.{◌∈◌, filter, range, Distinct}
use Rattle.lists.specs.Tests.{either, T_true, T_false, eq→eqb}
use Rattle.lists.specs.Members.{filter_out}
use Rattle.lists.specs.Pigeonhole.{other, other_all, distinct_filter}

unfoldable pub sum_of : (ℕ → ℕ) → List ℕ → ℕ
sum_of f [] = 0
sum_of f (x ∷ l) = f x + sum_of f l

module _ (f : ℕ → ℕ) where
  pub sum_append : (l m : List ℕ) → sum_of f (l ++ m) ≡ sum_of f l + sum_of f m
  unfolding sum_of
  sum_append [] m = omega arith
  sum_append (x ∷ l) m = omega (arith, sum_append l m)

  pub sum_none : (l : List ℕ) → ((x : ℕ) → f x ≡ 0) → sum_of f l ≡ 0
  unfolding sum_of
  sum_none [] h = refl
  sum_none (x ∷ l) h = omega (arith, h x, sum_none l h)

  -- n for each number of the list is at most the sum, where each counts for n at least
  pub sum_least : (n : ℕ) (l : List ℕ) → ((j : ℕ) → j < length l → n ≤ f (get_or l j 0)) → sum_of (λ x. n) l ≤ sum_of f
      l
  unfolding sum_of
  sum_least n [] h = omega arith
  sum_least n (x ∷ l) h = omega (arith, h 0 (omega arith), sum_least n l (λ j g. h (suc j) (omega arith)))

-- ---- lengths
pub sum_ones : (l : List ℕ) → sum_of (λ x. 1) l ≡ length l
unfolding sum_of
sum_ones [] = refl
sum_ones (x ∷ l) = omega (arith, sum_ones l)

pub sum_more : (n : ℕ) (l : List ℕ) → sum_of (λ x. suc n) l ≡ length l + sum_of (λ x. n) l
unfolding sum_of
sum_more n [] = refl
sum_more n (x ∷ l) = omega (arith, sum_more n l)

pub sum_lengths : (a b : ℕ → List ℕ) (l : List ℕ)
    → sum_of (λ x. length (a x ++ b x)) l ≡ sum_of (λ x. length (a x)) l + sum_of (λ x. length (b x)) l
unfolding sum_of
sum_lengths a b [] = refl
sum_lengths a b (x ∷ l) = omega (arith, length-append (a x) (b x), sum_lengths a b l)

-- ---- distinct numbers
sum_other : (f : ℕ → ℕ) (k : ℕ) (l : List ℕ) → Distinct l → sum_of f l ≤ f k + sum_of f (filter (other k) l)
unfolding sum_of
sum_other f k [] d = omega arith
sum_other f k (x ∷ l) d =
    either
    (eqb x k)
    (λ t.
    rw (T_true (eqb x k) t, other_all k l (λ m. d.0 (Memᴰ.cast (eqb→eq x k t) m)))
    (omega (arith, ap f (eqb→eq x k t))))
    (λ t. rw (T_false (eqb x k) t) (omega (arith, sum_other f k l d.1)))

pub sum_distinct : (f : ℕ → ℕ) (i n : ℕ) (l : List ℕ) → Distinct l → ((x : ℕ) → x ∈ l → (i ≤ x) × (x < i + n))
    → sum_of f l ≤ sum_of f (range i n)
unfolding sum_of
sum_distinct f i zero [] d h = omega arith
sum_distinct f i zero (x ∷ l) d h = absurd (omega (arith, h x (here refl)))
sum_distinct f i (suc n) l d h =
    omega (
      arith,
      sum_other f i l d,
      sum_distinct f (suc i) n (filter (other i) l) (distinct_filter (other i) l d) later,
    )
  where
    later : (x : ℕ) → x ∈ filter (other i) l → (suc i ≤ x) × (x < suc i + n)
    later x m =
        let r = filter_out (other i) l m in
        let e : ¬ (x ≡ i) = (λ z. T_not (eqb x i) r.1 (eq→eqb x i z)) in
        (omega (arith, h x r.0, e), omega (arith, h x r.0))
