-- Tests taken apart and put together: as facts `T a`, and as equations `a ≡ true`. `search reads` finds a fact that a
-- test in hand says, such as `b < c` in `T (leb a b && ltb b c)`, and `search writes` proves a test from facts in hand.
use Rattle.std.specs.Prelude.{◌≡◌, refl, Bool, true, false, not, ◌&&◌, ◌||◌, ◌⊎◌, ℕ, T, eqb}
use Rattle.std.proofs.Common.{sym, subst, inl, inr, eqb→eq, leb→le, le→leb, ltb→lt, lt→ltb}
use Rattle.std.proofs.lemmas.Bool.{false≢true}
use Rattle.std.proofs.Math.Dec.{eqb_refl}

-- ---- facts
-- cases on a test
pub either {ℓ} : {G : Type ℓ} (b : Bool) → (T b → G) → (T (not b) → G) → G
either true f g = f tt
either false f g = g tt

pub T_both : (a b : Bool) → T a → T b → T (a && b)
T_both true b p q = q
T_both false b p q = p

pub T_left : (a b : Bool) → T (a && b) → T a
T_left true b p = tt
T_left false b p = p

pub T_right : (a b : Bool) → T (a && b) → T b
T_right true b p = p
T_right false b p = absurd p

pub T_or_left : (a b : Bool) → T a → T (a || b)
T_or_left true b t = tt
T_or_left false b t = absurd t

pub T_or_right : (a b : Bool) → T b → T (a || b)
T_or_right true b t = tt
T_or_right false b t = t

pub T_or_cases : (a b : Bool) → T (a || b) → T a ⊎ T b
T_or_cases true b t = inl tt
T_or_cases false b t = inr t

pub T_true : (b : Bool) → T b → b ≡ true
T_true true t = refl
T_true false t = absurd t

pub T_false : (b : Bool) → T (not b) → b ≡ false
T_false true t = absurd t
T_false false t = refl

pub eq→eqb : (x y : ℕ) → x ≡ y → T (eqb x y)
eq→eqb x y e = subst (λ z. T (eqb x z)) e (eqb_refl x)

pub ruleset reads = (T_left, T_right, leb→le, ltb→lt, eqb→eq)

pub ruleset writes = (T_both, le→leb, lt→ltb, eq→eqb)

-- ---- equations
pub and_left : (a b : Bool) → (a && b) ≡ true → a ≡ true
and_left true b e = refl
and_left false b e = e

pub and_right : (a b : Bool) → (a && b) ≡ true → b ≡ true
and_right true b e = e
and_right false true e = refl
and_right false false e = e

pub and_both : (a b : Bool) → a ≡ true → b ≡ true → (a && b) ≡ true
and_both true b e f = f
and_both false b e f = e

pub and_true : (a : Bool) → (a && true) ≡ a
and_true true = refl
and_true false = refl

pub and_false : (a b : Bool) → b ≡ false → (a && b) ≡ false
and_false true b e = e
and_false false b e = refl

pub or_right : (a b : Bool) → b ≡ true → (a || b) ≡ true
or_right true b e = refl
or_right false b e = e

pub or_other : (a b : Bool) → (a || b) ≡ true → a ≡ false → b ≡ true
or_other true b e f = absurd (false≢true (sym f))
or_other false b e f = e

-- tests that follow from each other are the same
pub same_tests : (a b : Bool) → (a ≡ true → b ≡ true) → (b ≡ true → a ≡ true) → a ≡ b
same_tests true b f g = sym (f refl)
same_tests false true f g = g refl
same_tests false false f g = refl
