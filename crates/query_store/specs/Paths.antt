-- The sequence of each node and arc: that of what is before it, then the stations of its own change, or its target.
use Rattle.std.specs.Prelude.{◌≡◌, refl, List, [], ◌∷◌, ◌++◌, map, ℕ, zero, suc, ◌+◌, ◌≤◌, ◌<◌, length}
use Rattle.std.proofs.Common.{sym, ◌∙◌, arith, length-append}
use Rattle.std.proofs.Math.Path.{ap}
use Rattle.std.proofs.Math.ListN.{get_or, length-map, get_or-append}
use Rattle.std.proofs.Math.Seq.{get_or-append_seam}
use Rattle.stores.specs.Words.{node_threes, arc_pairs, follow_node, follow, chains, readable}
use Rattle.query_store.specs.Entries.{node_count, arc_count, node_alighted, node_boarded, node_parent, arc_target}
use Rattle.query_store.specs.Entries.{arc_before, length_nodes, length_arcs, node_at, arc_at}

-- the stations of the changes of node v, from the root's child to its own; none at the root, 0
unfoldable pub node_path : List ℕ → ℕ → List ℕ
node_path s v = get_or (chains ([] ∷ []) (node_threes s)) v []

-- the stations of arc k, its target last
unfoldable pub arc_path : List ℕ → ℕ → List ℕ
arc_path s k = get_or (readable s) k []

-- what is known stays as it is
chains_known : (known l : List (List ℕ)) (v : ℕ) → v < length known → get_or (chains known l) v [] ≡ get_or known v []
chains_known known [] v h = refl
chains_known known (p ∷ l) v h =
    chains_known (known ++ (follow_node known p ∷ [])) l v (omega
    (arith, length-append known (follow_node known p ∷ [])))
    ∙ get_or-append known (follow_node known p ∷ []) [] v h

-- the three at place j tells the sequence of the number length known + j, where what is before it has a smaller number
chains_next : (known l : List (List ℕ)) (j : ℕ) → j < length l → get_or (get_or l j []) 2 0 < length known + j
    → get_or (chains known l) (length known + j) [] ≡ follow_node (chains known l) (get_or l j [])
chains_next known [] j h g = absurd (omega arith)
chains_next known (p ∷ l) zero h g =
    ap (λ i. get_or (chains more l) i []) (omega arith)
    ∙ chains_known more l (length known) (omega (arith, length-append known (follow_node known p ∷ [])))
    ∙ get_or-append_seam known (follow_node known p) [] []
    ∙ ap (λ q. q ++ (get_or p 0 0 ∷ get_or p 1 0 ∷ [])) (sym (chains_known known (p ∷ l) (get_or p 2 0) (omega arith)))
  where
    more : List (List ℕ)
    more = known ++ (follow_node known p ∷ [])
chains_next known (p ∷ l) (suc j) h g =
    let e = length-append known (follow_node known p ∷ []) in
    ap (λ i. get_or (chains (known ++ (follow_node known p ∷ [])) l) i []) (omega arith)
    ∙ chains_next (known ++ (follow_node known p ∷ [])) l j (omega arith) (omega arith)

mapped : (f : List ℕ → List ℕ) (l : List (List ℕ)) (k : ℕ) → k < length l → get_or (map f l) k [] ≡ f (get_or l k [])
mapped f [] k h = absurd (omega arith)
mapped f (p ∷ l) zero h = refl
mapped f (p ∷ l) (suc k) h = mapped f l k (omega arith)

module _ (s : List ℕ) where
  pub root_path : node_path s 0 ≡ []
  unfolding node_path
  root_path = chains_known ([] ∷ []) (node_threes s) 0 (omega arith)

  -- node v + 1, whose parent is below it
  pub next_path : (v : ℕ) → v < node_count s → node_parent s (v + 1) ≤ v
      → node_path s (v + 1) ≡ node_path s (node_parent s (v + 1)) ++
      (node_alighted s (v + 1) ∷ node_boarded s (v + 1) ∷ [])
  unfolding node_path
  next_path v h g =
      let e = node_at s v h in
      let f = ap (λ p. get_or p 2 0) e in
      ap (λ i. get_or (chains ([] ∷ []) (node_threes s)) i []) (omega arith)
      ∙ chains_next ([] ∷ []) (node_threes s) v (omega (arith, length_nodes s)) (omega arith)
      ∙ ap (follow_node (chains ([] ∷ []) (node_threes s))) e

  pub arc_path_lem : (k : ℕ) → k < arc_count s → arc_path s k ≡ node_path s (arc_before s k) ++ (arc_target s k ∷ [])
  unfolding arc_path node_path readable
  arc_path_lem k h =
      let f = follow (chains ([] ∷ []) (node_threes s)) in
      mapped f (arc_pairs s) k (omega (arith, length_arcs s)) ∙ ap f (arc_at s k h)

  pub length_readable : length (readable s) ≡ arc_count s
  unfolding readable
  length_readable = length-map (arc_pairs s) (follow (chains ([] ∷ []) (node_threes s))) ∙ length_arcs s
