-- The undominated costs from the least penalty for each duration: those below all that are quicker. A program that
-- keeps one penalty for each minute finds the costs of a result so.
use Rattle.std.specs.Prelude.{◌≡◌, not, ◌↔◌, List, [], ◌∷◌, ℕ, suc, ◌+◌, ◌≤◌, ◌<◌, T, ltb}
use Rattle.std.proofs.Common.{ap, subst, ◌∙◌, ltb→lt, nltb→le}
use native.Mathlib.Omega.{arith, by_contra}
use Rattle.lists.specs.Lists.{◌∈◌, tail}
use Rattle.lists.specs.Tests.{either}
use Rattle.results.specs.Results.{Measure, pair, over, Undominated}
use Rattle.results.proofs.Domination.{dominates_in, dominates_out}
use Rattle.results.proofs.Picks.{lead}

-- by minute m one arrives for at most p points: so much is kept for that minute or for one before it
pub record ByThen (best : ℕ → ℕ) (m p : ℕ) : Type 0 where
  pub minute : ℕ
  pub until : minute ≤ m
  pub low : best minute ≤ p

-- where no value is more than it was, this stays so
pub by_lower : (old new : ℕ → ℕ) → ((k : ℕ) → new k ≤ old k) → (m p : ℕ) → ByThen old m p → ByThen new m p
by_lower old new lower m p b =
    record { minute = b.minute; until = b.until; low = omega (arith, lower b.minute, b.low) }

module _ {X : Type 0} (m : Measure X) (l : List X) (best : ℕ → ℕ) (inf : ℕ) where
  -- one on the list has this cost
  pub record Has (d p : ℕ) : Type 0 where
    pub one : X
    pub listed : one ∈ l
    pub minutes : (m.cost one).minutes ≡ d
    pub points : (m.cost one).points ≡ p

  -- best d is the penalty of one of duration d, or inf; for each one on the list there is one kept that is no slower
  -- and no dearer
  pub record LeastPoints : Type 0 where
    pub attained : (d : ℕ) → best d < inf → Has d (best d)
    pub below : (c : X) → c ∈ l → ByThen best (m.cost c).minutes (m.cost c).points
    pub small : (c : X) → c ∈ l → (m.cost c).points < inf

  -- the cost of d and p is below all that are quicker
  pub record Leads (d p : ℕ) : Type 0 where
    pub is : best d ≡ p
    pub found : p < inf
    pub first : (e : ℕ) → e < d → p < best e

  module _ (b : LeastPoints) where
    undominated_leads : (c : X) → Undominated m l c → Leads (m.cost c).minutes (m.cost c).points
    undominated_leads c u = record { is = is; found = b.small c u.listed; first = first }
      where
        d : ℕ
        d = (m.cost c).minutes

        p : ℕ
        p = (m.cost c).points

        -- what is quicker and no dearer, or as quick and cheaper, dominates
        beaten : (e : ℕ) → e ≤ d → best e < inf → best e ≤ p → e + best e < d + p → ⊥
        beaten e h f g k =
            let o = b.attained e f in
            let x = m.cost o.one in
            let i = o.minutes in
            let j = o.points in
            u.free o.one o.listed (dominates_in x (m.cost c) (omega arith))

        -- so the one that is no dearer is as quick
        low : best d ≤ p
        low = go (b.below c u.listed)
          where
            go : ByThen best d p → best d ≤ p
            go k =
                let s = b.small c u.listed in
                let e = k.minute in
                let small : best e < inf = omega (arith, k.low) in
                let late = by_contra d e (λ h. beaten e k.until small k.low (omega (arith, k.low))) in
                let same : e ≡ d = omega (arith, k.until) in
                omega (arith, k.low, ap best same)

        is : best d ≡ p
        is =
            let s = b.small c u.listed in
            let f : best d < inf = omega (arith, low) in
            let h = by_contra p (best d) (λ k. beaten d (omega arith) f low (omega arith)) in
            omega (arith, low)

        first : (e : ℕ) → e < d → p < best e
        first e h =
            let s = b.small c u.listed in
            by_contra (suc p) (best e) (λ k. beaten e (omega arith) (omega arith) (omega arith) (omega arith))

    -- nothing on the list is better than what leads
    none_better : (d p : ℕ) → Leads d p → (e : X) → e ∈ l → (m.cost e).minutes ≤ d → (m.cost e).points ≤ p
        → (m.cost e).minutes + (m.cost e).points < d + p → ⊥
    none_better d p k e i h g s = either (ltb o.minute d) quicker as_quick
      where
        o : ByThen best (m.cost e).minutes (m.cost e).points
        o = b.below e i

        quicker : T (ltb o.minute d) → ⊥
        quicker q = omega (arith, o.low, k.first o.minute (ltb→lt o.minute d q))

        as_quick : T (not (ltb o.minute d)) → ⊥
        as_quick q =
            let same : o.minute ≡ d = omega (arith, nltb→le o.minute d q, o.until) in
            omega (arith, o.low, o.until, ap best same, k.is)

    leads_undominated : (d p : ℕ) → Leads d p → (c : X) × Undominated m l c × (pair m c ≡ d ∷ p ∷ [])
    leads_undominated d p k =
        go (b.attained d (omega (arith, k.is, k.found)))
      where
        go : Has d (best d) → (c : X) × Undominated m l c × (pair m c ≡ d ∷ p ∷ [])
        go o = (o.one, record { listed = o.listed; free = free }, λ i. o.minutes i ∷ points i ∷ [])
          where
            points : (m.cost o.one).points ≡ p
            points = o.points ∙ k.is

            free : (e : X) → e ∈ l → ¬ T (over m o.one e)
            free e i t =
                let z = dominates_out (m.cost e) (m.cost o.one) t in
                let h = o.minutes in
                let g = points in
                none_better d p k e i (omega arith) (omega arith) (omega arith)

    -- the costs of the result are those that lead
    pub leads_exactly : (d p : ℕ) → Leads d p ↔ ((c : X) × Undominated m l c × (pair m c ≡ d ∷ p ∷ []))
    leads_exactly d p = (leads_undominated d p, to)
      where
        to : (c : X) × Undominated m l c × (pair m c ≡ d ∷ p ∷ []) → Leads d p
        to c =
            let k = undominated_leads c.0 c.1 in
            let h : (m.cost c.0).minutes ≡ d = ap lead c.2 in
            let g : (m.cost c.0).points ≡ p = ap (λ l. lead (tail l)) c.2 in
            subst (λ e. Leads e p) h (subst (Leads (m.cost c.0).minutes) g k)
