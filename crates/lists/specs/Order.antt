-- The order of sequences, number by number, is irreflexive, transitive and total.
use Rattle.std.specs.Prelude.{◌≡◌, refl, Bool, true, false, not, ◌&&◌, ◌||◌, ◌⊎◌, List, [], ◌∷◌, ℕ, ◌≤◌, ◌<◌, T, ltb}
use Rattle.std.specs.Prelude.{eqb}
use Rattle.std.proofs.Common.{sym, subst, inl, inr, arith, lt-ltb, le-ltb, eq-eqb, ne_eqb, ltb→lt, lt→ltb, nltb→le}
use Rattle.std.proofs.Common.{T_not}
use Rattle.std.proofs.Math.Dec.{not_T}
use Rattle.lists.specs.Lists.{before}
use Rattle.lists.specs.Tests.{either, T_both, T_or_left, T_or_right, T_or_cases, reads, eq→eqb}

module _ (x y : ℕ) (xs ys : List ℕ) where
  pub before_head : x < y → T (before (x ∷ xs) (y ∷ ys))
  before_head h = search (T_or_left, lt→ltb)

  pub before_tail : x ≡ y → T (before xs ys) → T (before (x ∷ xs) (y ∷ ys))
  before_tail e t = search (T_or_right, T_both, eq→eqb)

  pub before_cases : T (before (x ∷ xs) (y ∷ ys)) → (x < y) ⊎ ((x ≡ y) × T (before xs ys))
  before_cases t = go (T_or_cases (ltb x y) (eqb x y && before xs ys) t)
    where
      go : T (ltb x y) ⊎ T (eqb x y && before xs ys) → (x < y) ⊎ ((x ≡ y) × T (before xs ys))
      go (inl s) = inl (ltb→lt x y s)
      go (inr s) = inr (search reads, search reads)

pub before_irrefl : (x : List ℕ) → T (before x x) → ⊥
before_irrefl [] t = t
before_irrefl (x ∷ xs) t =
    elim (before_cases x x xs xs t) [ inl h ↦ omega arith | inr h ↦ before_irrefl xs h.1 ]

pub before_trans : (x y z : List ℕ) → T (before x y) → T (before y z) → T (before x z)
before_trans [] [] z p q = absurd p
before_trans [] (y ∷ ys) [] p q = q
before_trans [] (y ∷ ys) (z ∷ zs) p q = tt
before_trans (x ∷ xs) [] z p q = absurd p
before_trans (x ∷ xs) (y ∷ ys) [] p q = q
before_trans (x ∷ xs) (y ∷ ys) (z ∷ zs) p q =
    go (before_trans xs ys zs) (before_cases x y xs ys p) (before_cases y z ys zs q)
  where
    go : (T (before xs ys) → T (before ys zs) → T (before xs zs))
        → (x < y) ⊎ ((x ≡ y) × T (before xs ys)) → (y < z) ⊎ ((y ≡ z) × T (before ys zs))
        → T (before (x ∷ xs) (z ∷ zs))
    go ih (inl h) (inl k) = before_head x z xs zs (omega arith)
    go ih (inl h) (inr k) = before_head x z xs zs (omega arith)
    go ih (inr h) (inl k) = before_head x z xs zs (omega arith)
    go ih (inr h) (inr k) = before_tail x z xs zs (omega arith) (ih h.1 k.1)

pub before_total : (x y : List ℕ) → T (not (before x y)) → T (not (before y x)) → x ≡ y
before_total [] [] p q = refl
before_total [] (y ∷ ys) p q = absurd p
before_total (x ∷ xs) [] p q = absurd q
before_total (x ∷ xs) (y ∷ ys) p q =
    cc (e, before_total xs ys (rest x y xs ys e p) (rest y x ys xs (sym e) q))
  where
    not_less : (a b : ℕ) (us vs : List ℕ) → T (not (before (a ∷ us) (b ∷ vs))) → b ≤ a
    not_less a b us vs t =
        either
        (ltb a b)
        (λ h. absurd (T_not (before (a ∷ us) (b ∷ vs)) t (before_head a b us vs (ltb→lt a b h))))
        (nltb→le a b)

    e : x ≡ y
    e = omega (arith, not_less x y xs ys p, not_less y x ys xs q)

    rest : (a b : ℕ) (us vs : List ℕ) → a ≡ b → T (not (before (a ∷ us) (b ∷ vs))) → T (not (before us vs))
    rest a b us vs h t = not_T (before us vs) (λ s. T_not (before (a ∷ us) (b ∷ vs)) t (before_tail a b us vs h s))

-- the order of equals
pub before_same : {a b c d : List ℕ} → a ≡ c → b ≡ d → T (before a b) → T (before c d)
before_same {a} {b} {c} {d} e f t = subst (λ v. T (before c v)) f (subst (λ u. T (before u b)) e t)

-- if x does not come before y, nor y before z, then x does not come before z
pub not_before_trans : (x y z : List ℕ) → ¬ T (before x y) → ¬ T (before y z) → ¬ T (before x z)
not_before_trans x y z p q t =
    either
    (before z y)
    (λ s. p (before_trans x z y t s))
    (λ s. p (rw (before_total z y s (not_T (before y z) q)) at t))

-- ---- a comparison by one number, and by more where it is the same
module _ (a b : ℕ) (more : Bool) where
  pub first_less : a < b → (ltb a b || (eqb a b && more)) ≡ true
  first_less h = simp (lt-ltb a b h)

  pub first_more : b < a → (ltb a b || (eqb a b && more)) ≡ false
  first_more h = simp (le-ltb a b (omega arith), ne_eqb a b (omega arith))

  pub first_same : b ≤ a → a ≤ b → (ltb a b || (eqb a b && more)) ≡ more
  first_same h g = simp (le-ltb a b h, eq-eqb a b (omega arith))

pub last_number : (a b : ℕ) → before (a ∷ []) (b ∷ []) ≡ ltb a b
last_number a b = go (ltb a b) (eqb a b)
  where
    go : (x y : Bool) → (x || (y && false)) ≡ x
    go true y = refl
    go false true = refl
    go false false = refl
