-- The first of a list that passes a test, by its place.
use Rattle.std.specs.Prelude.{◌≡◌, refl, Bool, true, false, List, [], ◌∷◌, ℕ, zero, suc, ◌<◌, T, length, get_or}
use Rattle.std.proofs.Common.{sym, arith}
use mathlib.Core.List.Memᴰ
use mathlib.Core.List.Memᴰ.{head as here}
use Rattle.lists.specs.Lists.{◌∈◌, end_with, first_of}
use Rattle.lists.specs.Members.{none, cons_cases}

-- where a member of a list stands
pub record Placed {A : Type 0} (l : List A) (d x : A) : Type 0 where
  pub place : ℕ
  pub inside : place < length l
  pub is : get_or l place d ≡ x

pub placed : {A : Type 0} (l : List A) (d x : A) → x ∈ l → Placed l d x
placed [] d x m = none m
placed (y ∷ l) d x m =
    cons_cases
    m
    (λ e. record { place = 0; inside = omega arith; is = sym e })
    (λ k. let p = placed l d x k in record { place = suc p.place; inside = omega (arith, p.inside); is = p.is })

-- what stands at place j of the list passes, and nothing before it does
pub record FirstAt (test : ℕ → Bool) (l : List ℕ) (j : ℕ) : Type 0 where
  pub inside : j < length l
  pub passes : T (test (get_or l j 0))
  pub before : (k : ℕ) → k < j → ¬ T (test (get_or l k 0))

module _ (test : ℕ → Bool) where
  pub first_at_in : (l : List ℕ) (j : ℕ) → FirstAt test l j → get_or l j 0 ∈ first_of test l
  first_at_in [] j f = absurd (omega (arith, f.inside))
  first_at_in (x ∷ l) zero f = go (test x) f.passes
    where
      go : (b : Bool) → T b → x ∈ end_with b x (first_of test l)
      go true t = here refl
      go false t = absurd t
  first_at_in (x ∷ l) (suc j) f = go (test x) (f.before 0 (omega arith)) (first_at_in l j rest)
    where
      rest : FirstAt test l j
      rest =
          record {
            inside = omega (arith, f.inside);
            passes = f.passes;
            before = λ k h. f.before (suc k) (omega arith);
          }

      go : (b : Bool) → ¬ T b → get_or l j 0 ∈ first_of test l → get_or l j 0 ∈ end_with b x (first_of test l)
      go true t m = absurd (t tt)
      go false t m = m

  pub first_at_out : (l : List ℕ) (z : ℕ) → z ∈ first_of test l → (j : ℕ) × FirstAt test l j × (get_or l j 0 ≡ z)
  first_at_out [] z m = none m
  first_at_out (x ∷ l) z m = go (test x) refl m (first_at_out l z)
    where
      go : (b : Bool) → test x ≡ b → z ∈ end_with b x (first_of test l)
          → (z ∈ first_of test l → (j : ℕ) × FirstAt test l j × (get_or l j 0 ≡ z))
          → (j : ℕ) × FirstAt test (x ∷ l) j × (get_or (x ∷ l) j 0 ≡ z)
      go true e i ih = (
        0,
        record { inside = omega arith; passes = rw e tt; before = λ k h t. omega arith },
        sym (Memᴰ.eq_of_singleton i),
      )
      go false e i ih =
          let r = ih i in
          (suc r.0, later r.0 r.1, r.2)
        where
          later : (j : ℕ) → FirstAt test l j → FirstAt test (x ∷ l) (suc j)
          later j f = record { inside = omega (arith, f.inside); passes = f.passes; before = before }
            where
              before : (k : ℕ) → k < suc j → ¬ T (test (get_or (x ∷ l) k 0))
              before zero h t = rw e at t
              before (suc k) h t = f.before k (omega arith) t
