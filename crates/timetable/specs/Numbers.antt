-- The numbers of a valid timetable's trips: each trip has one, from 1 to 9,999, and they rise, so that a trip is known
-- by its number.
use Rattle.std.specs.Prelude.{◌≡◌, List, [], ◌∷◌, ℕ, zero, suc, ◌≤◌, ◌<◌, T, ltb, length, get_or}
use Rattle.std.proofs.Common.{arith, ltb→lt, nltb→le}
use Rattle.lists.specs.Tests.{either, reads}
use Rattle.timetable.specs.Timetable.{Timetable, number_of, number_most, climb, numbered, valid}

-- ---- numbers that rise
climb_above : (a : ℕ) (l : List ℕ) → T (climb a l) → (i : ℕ) → i < length l → a < get_or l i 0
unfolding climb
climb_above a [] t i h = absurd (omega arith)
climb_above a (n ∷ l) t zero h = search reads
climb_above a (n ∷ l) t (suc i) h =
    let first : a < n = search reads in
    let rest : T (climb n l) = search reads in
    omega (arith, first, climb_above n l rest i (omega arith))

pub climb_most : (a : ℕ) (l : List ℕ) → T (climb a l) → (i : ℕ) → i < length l → get_or l i 0 ≤ number_most
unfolding climb
climb_most a [] t i h = absurd (omega arith)
climb_most a (n ∷ l) t zero h = search reads
climb_most a (n ∷ l) t (suc i) h =
    let rest : T (climb n l) = search reads in
    climb_most n l rest i (omega arith)

pub climb_rise : (a : ℕ) (l : List ℕ) → T (climb a l) → (i j : ℕ) → i < j → j < length l → get_or l i 0 < get_or l j 0
unfolding climb
climb_rise a [] t i j h g = absurd (omega arith)
climb_rise a (n ∷ l) t i zero h g = absurd (omega arith)
climb_rise a (n ∷ l) t zero (suc j) h g =
    let rest : T (climb n l) = search reads in
    climb_above n l rest j (omega arith)
climb_rise a (n ∷ l) t (suc i) (suc j) h g =
    let rest : T (climb n l) = search reads in
    climb_rise n l rest i j (omega arith) (omega arith)

-- ---- those of a timetable
module _ (t : Timetable) (ok : T (valid t)) where
  is_numbered : T (numbered t)
  unfolding valid
  is_numbered = search reads

  pub climbs : T (climb 0 t.numbers)
  unfolding numbered
  climbs = let h = is_numbered in search reads

  pub numbers_many : length t.numbers ≡ length t.trips
  unfolding numbered
  numbers_many = let h = is_numbered in search reads

  pub number_most_lem : (z : ℕ) → z < length t.trips → number_of t z ≤ number_most
  number_most_lem z h = climb_most 0 t.numbers climbs z (omega (arith, numbers_many))

  -- places and numbers order alike
  pub numbers_rise : (y z : ℕ) → y < z → z < length t.trips → number_of t y < number_of t z
  numbers_rise y z h g = climb_rise 0 t.numbers climbs y z h (omega (arith, numbers_many))

  pub number_unique : (y z : ℕ) → y < length t.trips → z < length t.trips → number_of t y ≡ number_of t z
      → y ≡ z
  number_unique y z h g e =
      either
      (ltb y z)
      (λ s. absurd (omega (arith, e, numbers_rise y z (ltb→lt y z s) g)))
      (λ s. either
      (ltb z y)
      (λ r. absurd (omega (arith, e, numbers_rise z y (ltb→lt z y r) h)))
      (λ r. omega (arith, nltb→le y z s, nltb→le z y r)))
