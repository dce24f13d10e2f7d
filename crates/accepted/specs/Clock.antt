-- Times written out: "`hh:mm`, 00:00 to 47:59, two digits each side". What they read back to, and what bytes they have,
-- is computed for each minute of the two days in turn.
use Rattle.std.specs.Prelude.{◌≡◌, refl, Bool, true, ◌&&◌, List, [], ◌∷◌, ℕ, ◌+◌, ◌/◌, ◌%◌, ◌≤◌, eqb}
use Rattle.std.proofs.Common.{arith, eqb-true}
use Rattle.lists.specs.Tests.{and_left, and_right}
use Rattle.text.specs.Number.{decimal, digit_value}
use Rattle.text.specs.Time.{pair_value, is_time, minute_of, time_value}
use Rattle.timetable.specs.Timetable.{last_minute}
use Rattle.accepted.specs.Marks.{above}
use Rattle.accepted.specs.Digits.{all_below, all_below_at}

-- two digits; the digit 0 is byte 48
abbrev pub two_digits : ℕ → List ℕ → List ℕ
two_digits n s = (48 + n / 10) ∷ (48 + n % 10) ∷ s

-- the colon is byte 58
unfoldable pub clock : ℕ → List ℕ
clock n = two_digits (n / 60) (58 ∷ two_digits (n % 60) [])

-- n reads back to itself, and its bytes stand above the comma
well_timed : ℕ → Bool
well_timed n = eqb (time_value (clock n)) n && above 44 (clock n)

all_well_timed : all_below well_timed 2880 ≡ true
unfolding well_timed clock above time_value is_time minute_of pair_value decimal digit_value
all_well_timed = refl

module _ (n : ℕ) (h : n ≤ last_minute) where
  well_timed_lem : well_timed n ≡ true
  well_timed_lem = all_below_at well_timed 2880 n all_well_timed (omega arith)

  pub clock_value : time_value (clock n) ≡ n
  unfolding well_timed
  clock_value = let w = well_timed_lem in search (and_left, and_right, eqb-true)

  pub clock_above : above 44 (clock n) ≡ true
  unfolding well_timed
  clock_above = let w = well_timed_lem in search (and_left, and_right)
