-- Numbers up to 9,999 written out: "A number has one to four decimal digits and no leading zero, except 0 itself."
-- What they read back to, and what bytes they have, is computed for each number in turn.
use Rattle.std.specs.Prelude.{◌≡◌, refl, Bool, true, false, cond, ◌&&◌, List, [], ◌∷◌, ℕ, zero, suc, ◌+◌, ◌/◌, ◌%◌, ◌≤◌}
use Rattle.std.specs.Prelude.{◌<◌, leb, ltb, eqb, length}
use Rattle.std.proofs.Common.{sym, subst, arith, leb-true, lt-ltb, eqb-true}
use Rattle.std.proofs.lemmas.Bool.{eqb-false}
use Rattle.lists.specs.Tests.{and_left, and_right}
use Rattle.text.specs.Number.{field_value, decimal, digit_value}
use Rattle.accepted.specs.Marks.{above}

-- the digits of n, as many as fuel allows, in front of the bytes s
digits_before : (fuel n : ℕ) → List ℕ → List ℕ
digits_before zero n s = s
digits_before (suc fuel) n s =
    let more = digits_before fuel (n / 10) ((48 + n % 10) ∷ s) in
    cond (ltb n 10) ((48 + n) ∷ s) more

unfoldable pub digits : ℕ → List ℕ
unfolding digits_before
digits n = digits_before 4 n []

-- n reads back to itself; its bytes stand above the comma; there is one and there are at most 4, below 1,000 at most 3,
-- below 100 at most 2
well_written : ℕ → Bool
well_written n =
    eqb (field_value (digits n)) n
    && above 44 (digits n)
    && leb 1 (length (digits n))
    && leb (length (digits n)) 4
    && leb (length (digits n)) (cond (ltb n 1000) 3 4)
    && leb (length (digits n)) (cond (ltb n 100) 2 4)

abbrev pub all_below : (ℕ → Bool) → ℕ → Bool
all_below p zero = true
all_below p (suc n) = p n && all_below p n

all_well_written : all_below well_written 10000 ≡ true
unfolding well_written digits digits_before above field_value decimal digit_value
all_well_written = refl

pub all_below_at : (p : ℕ → Bool) (m n : ℕ) → all_below p m ≡ true → n < m → p n ≡ true
all_below_at p zero n e h = absurd (omega arith)
all_below_at p (suc m) n e h = by_test (eqb n m) refl (all_below_at p m n (and_right (p m) (all_below p m) e))
  where
    by_test : (t : Bool) → eqb n m ≡ t → (n < m → p n ≡ true) → p n ≡ true
    by_test true q below =
        subst (λ k. p k ≡ true) (sym (eqb-true n m q)) (and_left (p m) (all_below p m) e)
    by_test false q below =
        let other : n ≡ m → ⊥ = eqb-false n m q in
        below (omega arith)

module _ (n : ℕ) (h : n ≤ 9999) where
  well_written_lem : well_written n ≡ true
  well_written_lem = all_below_at well_written 10000 n all_well_written (omega arith)

  pub digits_value : field_value (digits n) ≡ n
  unfolding well_written
  digits_value = let w = well_written_lem in search (and_left, and_right, eqb-true)

  pub digits_above : above 44 (digits n) ≡ true
  unfolding well_written
  digits_above = let w = well_written_lem in search (and_left, and_right)

  pub four_bytes : length (digits n) ≤ 4
  unfolding well_written
  four_bytes = let w = well_written_lem in search (and_left, and_right, leb-true)

pub three_bytes : (n : ℕ) → n < 1000 → length (digits n) ≤ 3
unfolding well_written
three_bytes n h =
    let w : well_written n ≡ true = well_written_lem n (omega arith) in
    let short : length (digits n) ≤ cond (ltb n 1000) 3 4 = search (and_left, and_right, leb-true) in
    rw (lt-ltb n 1000 h) at short

pub two_bytes : (n : ℕ) → n < 100 → length (digits n) ≤ 2
unfolding well_written
two_bytes n h =
    let w : well_written n ≡ true = well_written_lem n (omega arith) in
    let short : length (digits n) ≤ cond (ltb n 100) 2 4 = search (and_left, and_right, leb-true) in
    rw (lt-ltb n 100 h) at short
