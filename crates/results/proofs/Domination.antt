-- Domination in words, and as arithmetic: neither part larger and the sum smaller. The sum serves proofs only, where
-- `omega` reads it; no definition adds the two.
use Rattle.std.specs.Prelude.{◌≡◌, not, ◌⊎◌, ◌↔◌, ◌+◌, ◌≤◌, ◌<◌, ltb}
use Rattle.std.proofs.Math.Logic.{inl, inr}
use native.Mathlib.Omega.{arith, by_contra}
use Rattle.std.proofs.Math.Dec.{T, le→leb}
use Rattle.std.proofs.Common.{ltb→lt, nltb→le}
use Rattle.lists.specs.Tests.{either, T_both, T_right, T_or_left, T_or_right, T_or_cases, reads, writes}
use Rattle.results.specs.Results.{Cost, dominates, equal}

pub record NoWorse (x y : Cost) : Type 0 where
  pub sooner : x.minutes ≤ y.minutes
  pub cheaper : x.points ≤ y.points

-- "One cost dominates another if neither part is larger and one is smaller", as `dominates` computes it
pub record Dominates (x y : Cost) : Type 0 where
  pub sooner : x.minutes ≤ y.minutes
  pub cheaper : x.points ≤ y.points
  pub smaller : (x.minutes < y.minutes) ⊎ (x.points < y.points)

-- The same for proofs: with neither part larger, one is smaller exactly if the sum is. It stands in no definition and
-- in no statement that a reader must believe.
pub record Better (x y : Cost) : Type 0 where
  pub sooner : x.minutes ≤ y.minutes
  pub cheaper : x.points ≤ y.points
  pub strict : x.minutes + x.points < y.minutes + y.points

module _ (x y : Cost) where
  pub dominates_out : T (dominates x y) → Better x y
  unfolding dominates
  dominates_out t =
      let a : x.minutes ≤ y.minutes = search reads in
      let b : x.points ≤ y.points = search reads in
      elim (T_or_cases (ltb x.minutes y.minutes) (ltb x.points y.points) (search (T_right, T_or_left, reads))) [
        | inl s ↦ omega (arith, ltb→lt)
        | inr s ↦ omega (arith, ltb→lt)
      ]

  pub dominates_in : Better x y → T (dominates x y)
  unfolding dominates
  dominates_in h = either (ltb x.minutes y.minutes) quicker cheaper
    where
      quicker : T (ltb x.minutes y.minutes) → T (dominates x y)
      quicker s = search (T_both, le→leb, T_or_left)

      cheaper : T (not (ltb x.minutes y.minutes)) → T (dominates x y)
      cheaper s =
          let k : x.points < y.points = omega (arith, nltb→le x.minutes y.minutes s) in
          search (T_both, le→leb, T_or_right)

  -- for a reader: the test of the definition says what the words say
  pub dominates_exactly : T (dominates x y) ↔ Dominates x y
  unfolding dominates
  dominates_exactly = (out, into)
    where
      out : T (dominates x y) → Dominates x y
      out t =
          record {
            sooner = search reads;
            cheaper = search reads;
            smaller = elim (T_or_cases (ltb x.minutes y.minutes) (ltb x.points y.points) (search T_right)) [
              | inl s ↦ inl (ltb→lt x.minutes y.minutes s)
              | inr s ↦ inr (ltb→lt x.points y.points s)
            ];
          }

      into : Dominates x y → T (dominates x y)
      into h = elim h.smaller [ inl s ↦ dominates_in (omega (arith, h)) | inr s ↦ dominates_in (omega (arith, h)) ]

  -- what is no worse and does not dominate has the same cost
  pub undominated_same : NoWorse x y → ¬ T (dominates x y) → x ≡ y
  undominated_same h n = λ i. record { minutes = same_minutes i; points = same_points i }
    where
      no_less : y.minutes + y.points ≤ x.minutes + x.points
      no_less = by_contra (y.minutes + y.points) (x.minutes + x.points) (λ k. n (dominates_in (omega arith)))

      same_minutes : x.minutes ≡ y.minutes
      same_minutes = omega (arith, no_less)

      same_points : x.points ≡ y.points
      same_points = omega (arith, no_less)

  pub equal_out : T (equal x y) → x ≡ y
  unfolding equal
  equal_out t =
      let p : x.minutes ≡ y.minutes = search reads in
      let q : x.points ≡ y.points = search reads in
      λ i. record { minutes = p i; points = q i }

  pub equal_in : x ≡ y → T (equal x y)
  unfolding equal
  equal_in e =
      let p : x.minutes ≡ y.minutes = cc in
      let q : x.points ≡ y.points = cc in
      search writes
