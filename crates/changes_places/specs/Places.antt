-- Where a trip of some number stands, in numbers that climb: behind all lower numbers, and the trip runs exactly if its
-- number stands there.
use Rattle.std.specs.Prelude.{◌≡◌, refl, Bool, true, false, ◌&&◌, ◌||◌, List, [], ◌∷◌, ℕ, suc, ◌≤◌, ◌<◌, T, ltb, eqb}
use Rattle.std.specs.Prelude.{length, get_or}
use Rattle.std.proofs.Common.{sym, ◌∙◌, arith, lt-ltb, le-ltb, ltb-true, ne_eqb}
use Rattle.std.proofs.Math.Decide.{dec_lt}
use Rattle.lists.specs.Tests.{reads, and_left}
use Rattle.timetable.specs.Timetable.{climb}
use Rattle.timetable.specs.Changes.{runs_as, place_of}

module _ (n m : ℕ) (l : List ℕ) where
  pub place_here : n ≤ m → place_of n (m ∷ l) ≡ 0
  unfolding place_of
  place_here h = rw (le-ltb m n h)

  pub place_on_lem : m < n → place_of n (m ∷ l) ≡ suc (place_of n l)
  unfolding place_of
  place_on_lem h = rw (lt-ltb m n h)

pub place_none : (n : ℕ) → place_of n [] ≡ 0
unfolding place_of
place_none n = refl

-- a place is never past the end
pub place_most : (n : ℕ) (l : List ℕ) → place_of n l ≤ length l
place_most n [] = omega (arith, place_none n)
place_most n (m ∷ l) =
    elim (dec_lt m n) [
      | yes h ↦ omega (arith, place_on_lem n m l h, place_most n l)
      | no h ↦ omega (arith, place_here n m l (omega arith))
    ]

-- numbers above n
runs_none : (n a : ℕ) (l : List ℕ) → T (climb a l) → n ≤ a → runs_as n l ≡ false
unfolding climb runs_as
runs_none n a [] t h = refl
runs_none n a (m ∷ l) t h =
    let above : a < m = search reads in
    let rest : T (climb m l) = search reads in
    rw (ne_eqb m n (λ e. omega (arith, e, above, h))) (runs_none n m l rest (omega arith))

ltb_next : (a b : ℕ) → ltb (suc a) (suc b) ≡ ltb a b
ltb_next a b =
    elim (dec_lt a b) [
      | yes h ↦ lt-ltb (suc a) (suc b) (omega arith) ∙ sym (lt-ltb a b h)
      | no h ↦ le-ltb (suc a) (suc b) (omega arith) ∙ sym (le-ltb a b (omega arith))
    ]

pub runs_there : (n a : ℕ) (l : List ℕ) → T (climb a l)
    → runs_as n l ≡ (ltb (place_of n l) (length l) && eqb (get_or l (place_of n l) 0) n)
unfolding climb runs_as
runs_there n a [] t = rw (le-ltb (place_of n []) 0 (omega (arith, place_none n)))
runs_there n a (m ∷ l) t =
    let rest : T (climb m l) = search reads in
    elim (dec_lt m n) [
      | yes h ↦
          rw (ne_eqb m n (λ e. omega (arith, e, h)), place_on_lem n m l h, ltb_next (place_of n l) (length l))
          (runs_there n m l rest)
      | no h ↦
          let first : ltb 0 (suc (length l)) ≡ true = lt-ltb 0 (suc (length l)) (omega arith) in
          rw (place_here n m l (omega arith), runs_none n m l rest (omega arith), first) (or_false (eqb m n))
    ]
  where
    or_false : (b : Bool) → (b || false) ≡ (true && b)
    or_false true = refl
    or_false false = refl

-- a trip that runs stands in its place
pub running_inside : (n : ℕ) (l : List ℕ) → runs_as n l ≡ true → T (climb 0 l) → place_of n l < length l
running_inside n l runs t =
    ltb-true (place_of n l) (length l)
    (and_left (ltb (place_of n l) (length l)) (eqb (get_or l (place_of n l) 0) n) (sym (runs_there n 0 l t) ∙ runs))
