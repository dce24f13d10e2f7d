-- A list taken apart at one of its members, and lists without repeats in parts.
use Rattle.std.specs.Prelude.{◌≡◌, List, [], ◌∷◌, ◌++◌, ℕ, get_or, drop}
use Rattle.std.proofs.Common.{sym, ap}
use mathlib.Core.List.Memᴰ.{head as here}
use mathlib.Core.List.Memᴰ.{tail as there}
use Rattle.lists.specs.Lists.{◌∈◌, Distinct}

-- where a member stands
pub record Standing (k : ℕ) (l : List ℕ) : Type 0 where
  pub front : List ℕ
  pub back : List ℕ
  pub whole : l ≡ front ++ (k ∷ back)

pub standing : {k : ℕ} {l : List ℕ} → k ∈ l → Standing k l
standing (here {xs = l} e) = record { front = []; back = l; whole = ap (λ z. z ∷ l) (sym e) }
standing (there {x = y} m) =
    let s = standing m in
    record { front = y ∷ s.front; back = s.back; whole = ap (λ l. y ∷ l) s.whole }

pub first_same : {x y : ℕ} {l m : List ℕ} → x ∷ l ≡ y ∷ m → x ≡ y
first_same e = ap (λ l. get_or l 0 0) e

pub rest_same : {x y : ℕ} {l m : List ℕ} → x ∷ l ≡ y ∷ m → l ≡ m
rest_same e = ap (drop 1) e

-- what stands behind has no repeats either
pub distinct_rest : (l m : List ℕ) → Distinct (l ++ m) → Distinct m
distinct_rest [] m d = d
distinct_rest (x ∷ l) m d = distinct_rest l m d.1
