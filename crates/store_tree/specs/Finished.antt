-- Once all nodes are taken, the nodes and arcs are those of the store.
use Rattle.std.specs.Prelude.{◌≡◌, refl, List, [], ◌∷◌, map, ℕ, zero, suc, ◌+◌, ◌*◌, length, take, drop}
use Rattle.std.proofs.Common.{sym, ap, subst, ◌∙◌, inl, inr, arith, length-append, length-drop, drop_at, take_all}
use mathlib.Core.List.Memᴰ
use mathlib.Core.List.Memᴰ.{head as here}
use Rattle.lists.specs.Lists.{◌∈◌, concat_map, Rising}
use Rattle.lists.specs.Members.{cons_cases, concat_map_out}
use Rattle.lists.specs.Order.{before_cases}
use Rattle.stores.specs.Words.{keyed, nodes, arcs, encode}
use Rattle.stores.specs.RoundTrip.{encode_length}
use Rattle.store_slots.specs.Slots.{transfer_at}
use Rattle.store_tree.specs.Tree.{arcs_of, children, rooted, Made, Grown}
use Rattle.store_tree.specs.Numbering.{child_out, rooted_rising}
use Rattle.store_tree.specs.Numbering.{root_first}
use Rattle.store_tree.specs.ArcOrder.{arcs_counted}
use Rattle.store_tree.specs.Growth.{split, reach}

-- ---- all nodes are taken
rising_drop : (j : ℕ) (l : List (List ℕ)) → Rising (map keyed l) → Rising (map keyed (drop j l))
rising_drop zero l r = r
rising_drop (suc j) [] r = tt
rising_drop (suc j) (q ∷ l) r = rising_drop j l r.1

-- nodes that come only from one another: none, since a first one would come from a shorter one
self_grown : (w : List ℕ) (ps d : List (List ℕ)) → d ≡ concat_map (children w ps) d → Rising (map keyed d) → d ≡ []
self_grown w ps [] e r = refl
self_grown w ps (q ∷ d) e r =
    let s = concat_map_out (children w ps) (q ∷ d) (subst (λ l. q ∈ l) e (here refl)) in
    let b = child_out w ps s.0 q s.2 in
    let c = transfer_at w b.0 in
    let long = ap length b.2 in
    let more = length-append s.0 (c.alighted ∷ c.boarded ∷ []) in
    cons_cases
    s.1
    (λ h. absurd (omega (arith, long, more, ap length h)))
    (λ h.
    elim (before_cases (length q) (length s.0) q s.0 (r.0 (keyed s.0) (Memᴰ.map keyed h))) [
      | inl l ↦ absurd (omega (arith, long, more))
      | inr l ↦ absurd (omega (arith, long, more, l.0))
    ])

module _
    (w : List ℕ)
    (ps : List (List ℕ))
    (made : Made w ps)
    (source : ℕ)
    (work targets : List ℕ)
    (n m : ℕ)
    (g : Grown w ps source work targets n m (suc n))
  where
    none_left : drop (suc n) (rooted ps) ≡ []
    none_left =
        self_grown
        w
        ps
        (drop (suc n) (rooted ps))
        (ap (drop (suc n)) (split w ps made (suc n))
        ∙ drop_at
        (concat_map (children w ps) (take (suc n) (rooted ps)))
        (concat_map (children w ps) (drop (suc n) (rooted ps)))
        n
        (sym g.node_count_lem))
        (rising_drop (suc n) (rooted ps) (rooted_rising ps))

    pub all_rooted : length (rooted ps) ≡ suc n
    all_rooted =
        omega (
          arith,
          length-drop (suc n) (rooted ps),
          ap length none_left,
          reach w ps made (suc n),
          g.node_count_lem,
        )

    pub grown_nodes : n ≡ length (nodes ps)
    grown_nodes = omega (arith, all_rooted, ap length (root_first ps))

    -- the targets are those of all nodes
    pub grown_targets : take m targets ≡ concat_map (arcs_of ps) (rooted ps)
    grown_targets = g.listed ∙ ap (concat_map (arcs_of ps)) (take_all (suc n) (rooted ps) (omega (arith, all_rooted)))

    pub grown_arcs : m ≡ length (arcs ps)
    grown_arcs =
        g.arc_count_lem
        ∙ ap (λ l. length (concat_map (arcs_of ps) l)) (take_all (suc n) (rooted ps) (omega (arith, all_rooted)))
        ∙ arcs_counted ps w made

    -- "a store has 2 + 3n + 2m words"
    pub grown_length : 2 + 3 * n + 2 * m ≡ length (encode ps)
    grown_length = omega (arith, encode_length ps, grown_nodes, grown_arcs)
