-- Two arrays that change places from step to step: which of them holds the present penalties, and which is spare.
use Rattle.std.specs.Prelude.{◌≡◌, refl, Bool, true, false, cond, List, ℕ}
use Rattle.std.proofs.Common.{sym, ◌∙◌}

-- q, if they have changed places
unfoldable pub held : (turned : Bool) (p q : List ℕ) → List ℕ
held turned p q = cond turned q p

unfoldable pub spare : (turned : Bool) (p q : List ℕ) → List ℕ
spare turned p q = cond turned p q

module _ (turned : Bool) (p q : List ℕ) where
  pub held_second : turned ≡ true → held turned p q ≡ q
  unfolding held
  held_second e = rw e

  pub held_first : turned ≡ false → held turned p q ≡ p
  unfolding held
  held_first e = rw e

  pub spare_first : turned ≡ true → spare turned p q ≡ p
  unfolding spare
  spare_first e = rw e

  pub spare_second : turned ≡ false → spare turned p q ≡ q
  unfolding spare
  spare_second e = rw e

-- both are the same, if the one held and the spare one are
module _ (p q l : List ℕ) where
  pub first_same : (turned : Bool) → held turned p q ≡ l → spare turned p q ≡ l → p ≡ l
  first_same true e f = sym (spare_first true p q refl) ∙ f
  first_same false e f = sym (held_first false p q refl) ∙ e

  pub second_same : (turned : Bool) → held turned p q ≡ l → spare turned p q ≡ l → q ≡ l
  second_same true e f = sym (held_second true p q refl) ∙ e
  second_same false e f = sym (spare_second false p q refl) ∙ f
