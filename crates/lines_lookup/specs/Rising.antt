-- Calls that rise: each stands after those before it. What is left of such a list after a call are its later calls, and
-- who goes on from there loses none.
use Rattle.std.specs.Prelude.{◌≡◌, Bool, ℕ, zero, suc, ◌≤◌, ◌<◌, T, ltb}
use Rattle.std.proofs.Math.Path.{refl, subst}
use Rattle.std.proofs.Common.{sym, ◌∙◌, arith, lt-ltb, le-ltb, ltb-true, ltb-false}
use Rattle.std.proofs.Math.Bool.{true, false, cond}
use mathlib.Core.List.Memᴰ
use mathlib.Core.List.{List, [], ◌∷◌, ◌++◌, map}
use mathlib.Core.List.Memᴰ.{head as here}
use mathlib.Core.List.Memᴰ.{tail as there}
use Rattle.std.proofs.Math.Decide.{dec_lt}
use Rattle.lists.specs.Lists.{◌∈◌, keep, filter, concat_map, range}
use Rattle.lists.specs.Members.{none, cons_cases, append_cases, concat_map_out, filter_out, range_out}
use Rattle.lines_lookup.specs.Calls.{Call, later, after}

-- call d stands after call c
pub record Later (c d : Call) : Type 0 where
  pub line : c.line ≤ d.line
  pub place : c.line ≡ d.line → c.place < d.place

pub later_yes : (c d : Call) → Later c d → later c d ≡ true
unfolding later
later_yes c d h =
    elim (dec_lt c.line d.line) [
      | yes g ↦ rw (lt-ltb c.line d.line g)
      | no g ↦
          rw (
            le-ltb c.line d.line (omega arith),
            le-ltb d.line c.line h.line,
            lt-ltb c.place d.place (h.place (omega (arith, h.line))),
          )
    ]

pub later_true : (c d : Call) → later c d ≡ true → Later c d
unfolding later
later_true c d e = go (ltb c.line d.line) (ltb d.line c.line) refl refl e
  where
    go : (p q : Bool) → ltb c.line d.line ≡ p → ltb d.line c.line ≡ q
        → cond p true (cond q false (ltb c.place d.place)) ≡ true → Later c d
    go true q f g e =
        let less = ltb-true c.line d.line f in
        record { line = omega arith; place = λ s. absurd (omega arith) }
    go false true f g e = absurd (subst T (sym e) tt)
    go false false f g e =
        let not_less = ltb-false d.line c.line g in
        let less = ltb-true c.place d.place e in
        record { line = omega arith; place = λ s. less }

pub later_trans : (c d e : Call) → Later c d → Later d e → Later c e
later_trans c d e h g =
    record {
      line = omega (arith, h.line, g.line);
      place = λ s.
          let same : c.line ≡ d.line = omega (arith, h.line, g.line) in
          let also : d.line ≡ e.line = omega (arith, h.line, g.line) in
          omega (arith, h.place same, g.place also);
    }

-- each call stands after those before it
abbrev pub Rising : List Call → Type 0
Rising [] = Unit {0}
Rising (c ∷ l) = ((d : Call) → d ∈ l → Later c d) × Rising l

-- a test is passed or not
not_both : (b : Bool) → b ≡ true → b ≡ false → ⊥
not_both b e f = subst T (sym e ∙ f) tt

-- ---- after a call
module _ (c : Call) where
  pub after_out : (l : List Call) → Rising l → (d : Call) → d ∈ after c l → (d ∈ l) × Later c d
  unfolding after
  after_out [] r d m = none m
  after_out (e ∷ l) r d m = go (later c e) refl m (after_out l r.1 d)
    where
      go : (b : Bool) → later c e ≡ b → d ∈ cond b (e ∷ l) (after c l) → (d ∈ after c l → (d ∈ l) × Later c d)
          → (d ∈ e ∷ l) × Later c d
      go true q i ih =
          let first = later_true c e q in
          (i, cons_cases i (λ p. subst (Later c) (sym p) first) (λ j. later_trans c e d first (r.0 d j)))
      go false q i ih = let k = ih i in (there k.0, k.1)

  pub after_in : (l : List Call) (d : Call) → d ∈ l → Later c d → d ∈ after c l
  unfolding after
  after_in [] d m h = none m
  after_in (e ∷ l) d m h = go (later c e) refl (λ j. after_in l d j h)
    where
      go : (b : Bool) → later c e ≡ b → (d ∈ l → d ∈ after c l) → d ∈ cond b (e ∷ l) (after c l)
      go true q ih = m
      go false q ih =
          cons_cases m (λ p. absurd (not_both (later c e) (later_yes c e (subst (Later c) p h)) q)) ih

  pub after_rising : (l : List Call) → Rising l → Rising (after c l)
  unfolding after
  after_rising [] r = tt
  after_rising (e ∷ l) r = go (later c e) (after_rising l r.1)
    where
      go : (b : Bool) → Rising (after c l) → Rising (cond b (e ∷ l) (after c l))
      go true ih = r
      go false ih = ih

  -- what was passed over stands after no later call either
  pub after_again : (e : Call) → Later c e → (l : List Call) → after e (after c l) ≡ after e l
  unfolding after
  after_again e h [] = refl
  after_again e h (d ∷ l) = go (later c d) (later e d) refl refl (after_again e h l)
    where
      go : (p q : Bool) → later c d ≡ p → later e d ≡ q → after e (after c l) ≡ after e l
          → after e (cond p (d ∷ l) (after c l)) ≡ cond q (d ∷ l) (after e l)
      go true q f g ih = rw g
      go false true f g ih =
          absurd (not_both (later c d) (later_yes c d (later_trans c e d h (later_true e d g))) f)
      go false false f g ih = ih

-- ---- lists that rise one after the other
rising_append : (a b : List Call) → Rising a → Rising b → ((c d : Call) → c ∈ a → d ∈ b → Later c d)
    → Rising (a ++ b)
rising_append [] b r s h = s
rising_append (c ∷ a) b r s h = (
  λ d m. append_cases a m (λ i. r.0 d i) (λ i. h c d (here refl) i),
  rising_append a b r.1 s (λ e d i j. h e d (there i) j),
)

abbrev pub call_of : (i p : ℕ) → Call
call_of i p = record { line = i; place = p }

-- the places of a line that pass a test
pub places_rising : (i : ℕ) (test : ℕ → Bool) (k n : ℕ) → Rising (map (call_of i) (filter test (range k n)))
places_rising i test k zero = tt
places_rising i test k (suc n) = go (test k) (places_rising i test (suc k) n)
  where
    rest : List ℕ
    rest = filter test (range (suc k) n)

    first : (d : Call) → d ∈ map (call_of i) rest → Later (call_of i k) d
    first d m =
        let y = Memᴰ.of_map (call_of i) rest m in
        let inside = range_out (suc k) n y.0 (filter_out test (range (suc k) n) y.1).0 in
        subst (Later (call_of i k)) y.2 (record { line = omega arith; place = λ s. omega arith })

    go : (b : Bool) → Rising (map (call_of i) rest) → Rising (map (call_of i) (keep b k rest))
    go true ih = (first, ih)
    go false ih = ih

-- those of all lines
pub lines_rising : (f : ℕ → List Call) → ((i : ℕ) → Rising (f i)) → ((i : ℕ) (c : Call) → c ∈ f i → c.line ≡ i)
    → (k n : ℕ) → Rising (concat_map f (range k n))
lines_rising f each on k zero = tt
lines_rising f each on k (suc n) =
    rising_append (f k) (concat_map f (range (suc k) n)) (each k) (lines_rising f each on (suc k) n) apart
  where
    apart : (c d : Call) → c ∈ f k → d ∈ concat_map f (range (suc k) n) → Later c d
    apart c d m j =
        let x = concat_map_out f (range (suc k) n) j in
        let inside = range_out (suc k) n x.0 x.1 in
        let mine = on k c m in
        let other = on x.0 d x.2 in
        record { line = omega arith; place = λ s. absurd (omega arith) }
