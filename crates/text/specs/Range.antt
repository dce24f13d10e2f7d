-- "Value ranges: change minutes 0 to 240, change penalty 1 to 1,000, times 0 to 2,879 (minutes from midnight, two
-- days), ride penalty 0 to 100." Document 02, Two: "Each T line gains a last field: 0 both, 1 boarding only, 2 setting
-- down only, any other number 3." One, of walks: "minutes 1 to 60, penalty 1 to 1,000". By the field's kind number: 1
-- change minutes, 2 change or walk penalty, 3 time, 4 ride penalty, 5 mark, 6 walk minutes. "An empty field has no
-- range": as a 0 it passes, for times and ride penalties may be 0.
use Rattle.std.specs.Prelude.{◌≡◌, Bool, ◌&&◌, ℕ, ◌≤◌, leb}
use Rattle.std.proofs.Math.Path.{refl}
use Rattle.std.proofs.Common.{◌∙◌, arith, leb-true}
use Rattle.std.proofs.Math.Bool.{true, false, cond}
use Rattle.std.proofs.Math.Dec.{eqb}
use Rattle.lists.specs.Tests.{and_left, and_right}

abbrev pub within : ℕ → ℕ → ℕ → Bool
within low high v = leb low v && leb v high

unfoldable pub in_range : ℕ → ℕ → Bool
in_range kind v =
    cond (eqb kind 1) (within 0 240 v)
    (cond (eqb kind 2) (within 1 1000 v)
    (cond (eqb kind 3) (within 0 2879 v)
    (cond (eqb kind 4) (within 0 100 v)
    (cond (eqb kind 5) (within 0 2 v)
    (cond (eqb kind 6) (within 1 60 v) true)))))

-- 0, or the refusal's number
unfoldable pub range_number : ℕ → ℕ → ℕ
range_number kind v = cond (in_range kind v) 0 3

-- ---- what the number says
module _ (kind v n : ℕ) (is : n ≡ range_number kind v) where
  pub range_in : n ≡ 0 → in_range kind v ≡ true
  unfolding range_number
  range_in e = by_test (in_range kind v) is
    where
      by_test : (t : Bool) → n ≡ cond t 0 3 → t ≡ true
      by_test true h = refl
      by_test false h = absurd (omega arith)

  pub range_out : (n ≡ 0 → ⊥) → in_range kind v ≡ false
  unfolding range_number
  range_out e = by_test (in_range kind v) is
    where
      by_test : (t : Bool) → n ≡ cond t 0 3 → t ≡ false
      by_test true h = absurd (e h)
      by_test false h = refl

  pub range_test : in_range kind v ≡ eqb n 0
  unfolding range_number
  range_test = by_test (in_range kind v) is
    where
      by_test : (t : Bool) → n ≡ cond t 0 3 → t ≡ eqb n 0
      by_test true h = rw h
      by_test false h = rw h

pub range_is : (kind v n : ℕ) → n ≡ range_number kind v → n ≡ cond (in_range kind v) 0 3
unfolding range_number
range_is kind v n is = is

-- a number other than 0 is the refusal's
pub range_three : (kind v n : ℕ) → n ≡ range_number kind v → (n ≡ 0 → ⊥) → n ≡ 3
unfolding range_number
range_three kind v n is h = is ∙ rw (range_out kind v n is h)

-- ---- the bounds that a kind of field has
within_bounds : (low high v : ℕ) → within low high v ≡ true → (low ≤ v) × (v ≤ high)
within_bounds low high v e =
    (leb-true low v (and_left (leb low v) (leb v high) e), leb-true v high (and_right (leb low v) (leb v high) e))

pub minutes_bound : (v : ℕ) → in_range 1 v ≡ true → v ≤ 240
unfolding in_range
minutes_bound v e = (within_bounds 0 240 v e).1

pub points_bound : (v : ℕ) → in_range 2 v ≡ true → (1 ≤ v) × (v ≤ 1000)
unfolding in_range
points_bound v e = within_bounds 1 1000 v e

pub time_bound : (v : ℕ) → in_range 3 v ≡ true → v ≤ 2879
unfolding in_range
time_bound v e = (within_bounds 0 2879 v e).1

pub ride_bound : (v : ℕ) → in_range 4 v ≡ true → v ≤ 100
unfolding in_range
ride_bound v e = (within_bounds 0 100 v e).1

pub mark_bound : (v : ℕ) → in_range 5 v ≡ true → v ≤ 2
unfolding in_range
mark_bound v e = (within_bounds 0 2 v e).1

pub walk_bound : (v : ℕ) → in_range 6 v ≡ true → (1 ≤ v) × (v ≤ 60)
unfolding in_range
walk_bound v e = within_bounds 1 60 v e
