-- Flags that were raised by themselves are raised with others, place by place, and on the way it is seen whether there
-- is one.
use Rattle.std.specs.Prelude.{◌≡◌, refl, Bool, true, false, cond, ◌⊎◌, ◌↔◌, List, ℕ, ◌+◌, ◌≤◌, ◌<◌, eqb, length, get_or}
use Rattle.std.specs.Prelude.{set}
use Rattle.std.proofs.Common.{sym, ap, subst, ◌∙◌, inl, inr, arith, eqb-true, ne_eqb, get_or-set_same, get_or-set_other}
use Rattle.std.proofs.Math.Decide.{ℕ_discrete}
use Rattle.std.proofs.lemmas.Bool.{eqb-false}

-- of n flags those are up that were, or are up among the fresh ones
pub record Joined (n : ℕ) (old fresh new : List ℕ) : Type 0 where
  pub at : (k : ℕ) → k < n → (get_or new k 0 ≡ 1) ↔ ((get_or old k 0 ≡ 1) ⊎ (get_or fresh k 0 ≡ 1))

-- of n flags none is up
pub record NoneUp (n : ℕ) (flags : List ℕ) : Type 0 where
  pub none : (k : ℕ) → k < n → ¬ (get_or flags k 0 ≡ 1)

-- as far as place i: the flags from there on are the old ones, and seen tells whether a fresh one was up
pub record Joining (i : ℕ) (old fresh flags : List ℕ) (seen : ℕ) : Type 0 where
  pub joined : Joined i old fresh flags
  pub rest : (k : ℕ) → i ≤ k → get_or flags k 0 ≡ get_or old k 0
  pub unseen : ¬ (seen ≡ 1) → NoneUp i fresh

-- a flag with a fresh one
unfoldable pub joined_flag : (old fresh : ℕ) → ℕ
joined_flag old fresh = cond (eqb fresh 1) 1 old

joined_up : (old fresh : ℕ) → (joined_flag old fresh ≡ 1) ↔ ((old ≡ 1) ⊎ (fresh ≡ 1))
unfolding joined_flag
joined_up old fresh = go (eqb fresh 1) refl
  where
    go : (b : Bool) → eqb fresh 1 ≡ b → (cond b 1 old ≡ 1) ↔ ((old ≡ 1) ⊎ (fresh ≡ 1))
    go true e = (λ up. inr (eqb-true fresh 1 e), λ up. refl)
    go false e = (
      λ up. inl up,
      λ up. (elim up [ inl was ↦ was | inr is ↦ absurd (eqb-false fresh 1 e is) ]),
    )

pub joined_hit : (old fresh : ℕ) → fresh ≡ 1 → 1 ≡ joined_flag old fresh
unfolding joined_flag
joined_hit old fresh is = rw (is)

pub joined_miss : (old fresh : ℕ) → (fresh ≡ 1 → ⊥) → old ≡ joined_flag old fresh
unfolding joined_flag
joined_miss old fresh other = rw (ne_eqb fresh 1 other)

pub joining_none : (old fresh : List ℕ) (seen : ℕ) → Joining 0 old fresh old seen
joining_none old fresh seen =
    record {
      joined = record { at = λ k h. absurd (omega arith) };
      rest = (λ k h. refl);
      unseen = λ e. record { none = λ k h. absurd (omega arith) };
    }

pub joining_more : (i : ℕ) (old fresh flags : List ℕ) (seen seen' f : ℕ) → Joining i old fresh flags seen
    → i < 320 → length flags ≡ 320 → f ≡ joined_flag (get_or flags i 0) (get_or fresh i 0)
    → seen' ≡ joined_flag seen (get_or fresh i 0) → Joining (i + 1) old fresh (set flags i f) seen'
joining_more i old fresh flags seen seen' f before few long is next =
    record {
      joined = record { at = at };
      rest = λ k h. get_or-set_other flags i k f 0 (λ e. omega arith) ∙ before.rest k (omega arith);
      unseen = λ down. record { none = none_up down };
    }
  where
    here : (get_or (set flags i f) i 0 ≡ 1) ↔ ((get_or old i 0 ≡ 1) ⊎ (get_or fresh i 0 ≡ 1))
    here =
        subst (λ z. (z ≡ 1) ↔ ((get_or old i 0 ≡ 1) ⊎ (get_or fresh i 0 ≡ 1)))
        (sym
        (get_or-set_same flags i f 0 (omega arith)
        ∙ is
        ∙ ap (λ z. joined_flag z (get_or fresh i 0)) (before.rest i (omega arith))))
        (joined_up (get_or old i 0) (get_or fresh i 0))

    at : (k : ℕ) → k < i + 1 → (get_or (set flags i f) k 0 ≡ 1) ↔ ((get_or old k 0 ≡ 1) ⊎ (get_or fresh k 0 ≡ 1))
    at k h =
        elim (ℕ_discrete k i) [
          | yes same ↦
              subst (λ k. (get_or (set flags i f) k 0 ≡ 1) ↔ ((get_or old k 0 ≡ 1) ⊎ (get_or fresh k 0 ≡ 1))) (sym same)
              here
          | no other ↦
              subst (λ z. (z ≡ 1) ↔ ((get_or old k 0 ≡ 1) ⊎ (get_or fresh k 0 ≡ 1)))
              (sym (get_or-set_other flags i k f 0 other))
              (before.joined.at k (omega (arith, other)))
        ]

    none_up : ¬ (seen' ≡ 1) → (k : ℕ) → k < i + 1 → ¬ (get_or fresh k 0 ≡ 1)
    none_up down k h up =
        elim (ℕ_discrete k i) [
          | yes same ↦
              down (next ∙ (joined_up seen (get_or fresh i 0)).1 (inr (ap (λ k. get_or fresh k 0) (sym same) ∙ up)))
          | no other ↦
              (before.unseen (λ was. down (next ∙ (joined_up seen (get_or fresh i 0)).1 (inl was)))).none k
              (omega (arith, other))
              up
        ]

module _ (i n : ℕ) (old fresh flags : List ℕ) (seen : ℕ) (j : Joining i old fresh flags seen) (all : n ≤ i) where
  pub joining_all : Joined n old fresh flags
  joining_all = record { at = λ k h. j.joined.at k (omega arith) }

  pub joining_unseen : eqb seen 1 ≡ false → NoneUp n fresh
  joining_unseen down = record { none = λ k h. (j.unseen (eqb-false seen 1 down)).none k (omega arith) }
