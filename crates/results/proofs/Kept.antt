-- A shorter list with the result of the whole. If it keeps every picked candidate, the result is the same, rows and
-- all: whatever beats a candidate on the whole list, a picked one below it beats it on the shorter. If it only has one
-- for each that is no worse, the costs are the same.
use Rattle.std.specs.Prelude.{◌≡◌, refl, List, [], ◌∷◌, map, T}
use Rattle.std.proofs.Common.{sym, subst, ◌∙◌, arith}
use Rattle.std.proofs.Math.Path.{ap}
use mathlib.Core.List.Memᴰ
use mathlib.Core.List.Memᴰ.{head as here}
use Rattle.lists.specs.Lists.{◌∈◌}
use Rattle.lists.specs.Members.{none}
use Rattle.lists.specs.Sorting.{Inside, rising_unique}
use Rattle.results.specs.Results.{Measure, pair, told, over, entries, result, costs, Undominated, Picked}
use Rattle.results.proofs.Domination.{NoWorse, Better, dominates_in, dominates_out, undominated_same}
use Rattle.results.proofs.Picks.{entries_in, entries_out, entries_rising, costs_in, costs_out, costs_rising}
use Rattle.results.proofs.Picks.{undominated_cost, optimum, pick, picked_once}

-- one with the cost and row of another has its pair
pub same_pair : {X : Type 0} (m : Measure X) (c e : X) → m.cost c ≡ m.cost e → pair m c ≡ pair m e
same_pair m c e q = λ i. (q i).minutes ∷ (q i).points ∷ []

module _ {X : Type 0} (m : Measure X) (whole kept : List X) (sub : (c : X) → c ∈ kept → c ∈ whole) where
  undominated_part : (c : X) → c ∈ kept → Undominated m whole c → Undominated m kept c
  undominated_part c i u = record { listed = i; free = λ e k. u.free e (sub e k) }

  module _ (keeps : (c : X) → Picked m whole c → c ∈ kept) where
    -- below each candidate of the whole list lies one that is kept
    kept_optimum : (e : X) → e ∈ whole → (c : X) × (c ∈ kept) × NoWorse (m.cost c) (m.cost e)
    kept_optimum e i =
        let o = optimum m whole e i in
        let p = pick m whole o.one o.best in
        (p.0, keeps p.0 p.1, rw p.2 o.no_worse)

    undominated_whole : (c : X) → Undominated m kept c → Undominated m whole c
    undominated_whole c u = record { listed = sub c u.listed; free = free }
      where
        free : (e : X) → e ∈ whole → ¬ T (over m c e)
        free e i d =
            let b = dominates_out (m.cost e) (m.cost c) d in
            let o = kept_optimum e i in
            let better : Better (m.cost o.0) (m.cost c) = omega (arith, b, o.2) in
            u.free o.0 o.1 (dominates_in (m.cost o.0) (m.cost c) better)

    picked_part : (c : X) → Picked m whole c → Picked m kept c
    picked_part c p =
        record { best = undominated_part c (keeps c p) p.best; first = λ e i. p.first e (sub e i) }

    entries_kept : entries m kept ≡ entries m whole
    entries_kept =
        rising_unique (entries m kept) (entries m whole) (entries_rising m kept) (entries_rising m whole) to from
      where
        -- the one that the whole list picks for this cost is kept, and has the entry
        to : Inside (entries m kept) (entries m whole)
        to z i =
            let r = entries_out m kept z i in
            let p = pick m whole r.0 (undominated_whole r.0 r.1.best) in
            let one = picked_once m kept p.0 r.0 (picked_part p.0 p.1) r.1 p.2 in
            Memᴰ.cast (sym (one ∙ r.2)) (entries_in m whole p.0 p.1)

        from : Inside (entries m whole) (entries m kept)
        from z i =
            let r = entries_out m whole z i in
            Memᴰ.cast (sym r.2) (entries_in m kept r.0 (picked_part r.0 r.1))

    pub result_kept : result m kept ≡ result m whole
    unfolding result
    result_kept = ap (map (told m)) entries_kept

    pub empty_kept : kept ≡ [] → whole ≡ []
    empty_kept e = go whole refl
      where
        go : (l : List X) → whole ≡ l → whole ≡ []
        go [] h = h
        go (c ∷ l) h =
            let o = kept_optimum c (rw h (here refl)) in
            none (subst (λ k. o.0 ∈ k) e o.1)

  -- Lemma 1 of the paper uses this: the first trips of the lines cover all direct rides.
  module _ (covered : (c : X) → c ∈ whole → (e : X) × (e ∈ kept) × NoWorse (m.cost e) (m.cost c)) where
    undominated_covered : (c : X) → Undominated m kept c → Undominated m whole c
    undominated_covered c u = record { listed = sub c u.listed; free = free }
      where
        free : (e : X) → e ∈ whole → ¬ T (over m c e)
        free e i d =
            let b = dominates_out (m.cost e) (m.cost c) d in
            let o = covered e i in
            let better : Better (m.cost o.0) (m.cost c) = omega (arith, b, o.2) in
            u.free o.0 o.1 (dominates_in (m.cost o.0) (m.cost c) better)

    pub costs_covered : costs m kept ≡ costs m whole
    costs_covered = rising_unique (costs m kept) (costs m whole) (costs_rising m kept) (costs_rising m whole) to from
      where
        to : Inside (costs m kept) (costs m whole)
        to z i =
            let r = costs_out m kept z i in
            Memᴰ.cast (sym r.2) (costs_in m whole r.0 (undominated_covered r.0 r.1))

        from : Inside (costs m whole) (costs m kept)
        from z i =
            let r = costs_out m whole z i in
            let o = covered r.0 r.1.listed in
            let e = o.0 in
            let i = sub e o.1 in
            let q = undominated_same (m.cost e) (m.cost r.0) o.2 (r.1.free e i) in
            let u = undominated_part e o.1 (undominated_cost m whole r.0 e r.1 i q) in
            Memᴰ.cast (sym r.2 ∙ sym (same_pair m e r.0 q)) (costs_in m kept e u)
