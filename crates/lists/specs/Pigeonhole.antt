-- At most k distinct numbers lie from 1 to k: leave out k, and the others lie from 1 to k - 1.
use Rattle.std.specs.Prelude.{◌≡◌, refl, Bool, true, false, not, List, [], ◌∷◌, ℕ, zero, suc, ◌≤◌, eqb, length}
use Rattle.std.proofs.Common.{sym, arith, eqb→eq, T_not}
use mathlib.Core.List.Memᴰ
use mathlib.Core.List.Memᴰ.{head as here}
use mathlib.Core.List.Memᴰ.{tail as there}
use Rattle.lists.specs.Lists.{◌∈◌, keep, filter, Distinct}
use Rattle.lists.specs.Tests.{either, T_true, T_false, eq→eqb}
use Rattle.lists.specs.Members.{filter_out}

-- all numbers from 1 to k
abbrev pub Within : ℕ → List ℕ → Type 0
Within k l = (x : ℕ) → x ∈ l → (1 ≤ x) × (x ≤ k)

-- those other than k
abbrev pub other : ℕ → ℕ → Bool
other k x = not (eqb x k)

pub other_all : (k : ℕ) (l : List ℕ) → ¬ (k ∈ l) → filter (other k) l ≡ l
other_all k [] h = refl
other_all k (x ∷ l) h =
    either
    (eqb x k)
    (λ t. absurd (h (here (sym (eqb→eq x k t)))))
    (λ t. rw (T_false (eqb x k) t, other_all k l (λ m. h (there m))))

other_length : (k : ℕ) (l : List ℕ) → Distinct l → length l ≤ suc (length (filter (other k) l))
other_length k [] d = omega arith
other_length k (x ∷ l) d =
    either
    (eqb x k)
    (λ t. rw (T_true (eqb x k) t, other_all k l (λ m. d.0 (Memᴰ.cast (eqb→eq x k t) m))) (omega arith))
    (λ t. rw (T_false (eqb x k) t) (omega (arith, other_length k l d.1)))

pub distinct_filter : (p : ℕ → Bool) (l : List ℕ) → Distinct l → Distinct (filter p l)
distinct_filter p [] d = tt
distinct_filter p (x ∷ l) d = go (p x) (distinct_filter p l d.1)
  where
    go : (b : Bool) → Distinct (filter p l) → Distinct (keep b x (filter p l))
    go true ih = (λ m. d.0 (filter_out p l m).0, ih)
    go false ih = ih

pub pigeonhole : (k : ℕ) (l : List ℕ) → Distinct l → Within k l → length l ≤ k
pigeonhole zero [] d h = omega arith
pigeonhole zero (x ∷ l) d h = absurd (omega (arith, h x (here refl)))
pigeonhole (suc k) l d h =
    omega (arith, other_length (suc k) l d, pigeonhole k others (distinct_filter (other (suc k)) l d) below)
  where
    others : List ℕ
    others = filter (other (suc k)) l

    below : Within k others
    below y m =
        let r = filter_out (other (suc k)) l m in
        let e : ¬ (y ≡ suc k) = (λ z. T_not (eqb y (suc k)) r.1 (eq→eqb y (suc k) z)) in
        ((h y r.0).0, omega (arith, h y r.0, e))
