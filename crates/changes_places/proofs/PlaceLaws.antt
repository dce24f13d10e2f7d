-- Looking for the place of a number, trip by trip, and whether the trip that stands there has it.
use mathlib.Core.Path.{◌≡◌, sym, ap, subst, ◌∙◌}
use mathlib.Core.Bool.{true, false, ◌&&◌}
use mathlib.Core.List.{List}
use Prim.Native.Nat.{ℕ, ◌+◌, ◌≤◌, ◌<◌}
use native.Mathlib.Omega.{arith}
use borrow.Author.Tests.{lt-ltb, le-ltb}
use lib.Dec.{T, ltb, eqb}
use lib.ListN.{length, get_or}
use Rattle.timetable.specs.Words.{number_at, timetable_of, is_timetable}
use Rattle.timetable.specs.Check.{length_numbers, numbers_at, between_more, between_none}
use Rattle.timetable.specs.Access.{number_is, spelled_valid, trips_few}
use Rattle.timetable.specs.Numbers.{climbs}
use Rattle.timetable.specs.Changes.{runs_as, place_of}
use Rattle.changes_places.specs.Places.{place_here, place_on_lem, place_none, runs_there}
use Rattle.changes_places.specs.Runs.{numbers_are}

pub trip_few : (w : List ℕ) (k trips : ℕ) → is_timetable w ≡ true → trips ≡ get_or w 1 0 → k < trips → k ≤ 256
trip_few w k trips okay is h = omega (arith, trips_few w okay)

-- ---- one trip after the other
pub place_first : (w : List ℕ) (n trips : ℕ) → place_of n (numbers_at w 0 trips) ≡ 0 + place_of n (numbers_at w 0 trips)
place_first w n trips = omega arith

module _ (w : List ℕ) (n trips k : ℕ) (is_trips : trips ≡ get_or w 1 0)
    (left : place_of n (numbers_at w 0 trips) ≡ k + place_of n (numbers_at w k trips)) where
  whole : place_of n (numbers_at w 0 trips) ≡ place_of n (timetable_of w).numbers
  whole = ap (place_of n) (ap (numbers_at w 0) is_trips ∙ sym (numbers_are w))

  pub place_found : k < trips → (m : ℕ) → m ≡ number_at w k → n ≤ m → k ≡ place_of n (timetable_of w).numbers
  place_found h m is low =
      let here = ap (place_of n) (between_more (number_at w) k trips h) in
      let none = place_here n (number_at w k) (numbers_at w (k + 1) trips) (omega arith) in
      omega (arith, left, here, none, whole)

  pub place_more : k < trips → (m : ℕ) → m ≡ number_at w k → m < n
      → place_of n (numbers_at w 0 trips) ≡ k + 1 + place_of n (numbers_at w (k + 1) trips)
  place_more h m is high =
      let here = ap (place_of n) (between_more (number_at w) k trips h) in
      let one = place_on_lem n (number_at w k) (numbers_at w (k + 1) trips) (omega arith) in
      omega (arith, left, here, one)

  pub place_last : k ≤ trips → trips ≤ k → trips ≡ place_of n (timetable_of w).numbers
  place_last h g =
      let none = ap (place_of n) (between_none (number_at w) k trips g) in
      omega (arith, left, none, place_none n, whole)

-- ---- what stands there
module _ (w : List ℕ) (okay : is_timetable w ≡ true) (n place : ℕ)
    (is : place ≡ place_of n (timetable_of w).numbers) where
  abbrev ns : List ℕ
  ns = (timetable_of w).numbers

  there : runs_as n ns ≡ (ltb place (length ns) && eqb (get_or ns place 0) n)
  there =
      runs_there n 0 ns (climbs (timetable_of w) (subst T (sym (spelled_valid w okay)) tt))
      ∙ ap (λ k. ltb k (length ns) && eqb (get_or ns k 0) n) (sym is)

  pub runs_past : (trips : ℕ) → trips ≡ get_or w 1 0 → trips ≤ place → false ≡ runs_as n (timetable_of w).numbers
  runs_past trips many past =
      sym (there ∙ rw (le-ltb place (length ns) (omega (arith, length_numbers w))))

  pub runs_here : (trips : ℕ) → trips ≡ get_or w 1 0 → place < trips → (m : ℕ) → m ≡ number_at w place
      → eqb m n ≡ runs_as n (timetable_of w).numbers
  runs_here trips many inside m here =
      sym (there
      ∙ rw (lt-ltb place (length ns) (omega (arith, length_numbers w)))
      (ap (λ k. eqb k n) (number_is w place (omega arith) ∙ sym here)))
