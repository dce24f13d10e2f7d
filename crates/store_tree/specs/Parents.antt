-- The change of a node and its parent: what it is without its last change, a node with a smaller number.
use Rattle.std.specs.Prelude.{◌≡◌, refl, ◌≢◌, ℕ, zero, suc, ◌≤◌, ◌<◌, length, get_or, take, drop}
use Rattle.std.proofs.Common.{sym, subst, ◌∙◌, arith, length-take-le}
use mathlib.Core.List.{List, [], ◌∷◌, ◌++◌}
use Rattle.std.proofs.Math.Seq.{split_at}
use Rattle.lists.specs.Places.{get_d_in}
use Rattle.lists.specs.Lists.{◌∈◌}
use Rattle.stores.specs.Words.{front, final, nodes, place}
use Rattle.stores.specs.Sequences.{Even, place_append, place_bound, place_get}
use Rattle.stores.specs.Nodes.{front_before, nodes_made_lem}
use Rattle.store_tree.specs.Tree.{changing, rooted, node_at, last_of}
use Rattle.store_tree.specs.Numbering.{rejoined, root_first}

pub parent_below : (ps : List (List ℕ)) (v : ℕ) → suc v < length (rooted ps)
    → place (front (front (node_at ps (suc v)))) (rooted ps) < suc v
unfolding rooted
parent_below ps v h =
    let ns = nodes ps in
    let q = get_or ns v [] in
    let e : take v ns ++ q ∷ drop (suc v) ns ≡ ns = sym (split_at ns v [] (omega arith)) in
    let m = front_before ns (nodes_made_lem ps) (take v ns) q (drop (suc v) ns) e in
    let before = front (front q) in
    let long : length (take v ns) ≡ v = length-take-le v ns (omega arith) in
    subst
    (λ l. place before ([] ∷ l) < suc v)
    e
    (rw
    (place_append before ([] ∷ take v ns) (q ∷ drop (suc v) ns) m)
    (omega (arith, long, place_bound before ([] ∷ take v ns) m)))

pub parent_most : (ps : List (List ℕ)) (v : ℕ) → v < length (rooted ps)
    → place (front (front (node_at ps v))) (rooted ps) ≤ v
unfolding rooted
parent_most ps zero h = omega arith
parent_most ps (suc v) h = omega (arith, parent_below ps v h)

-- a node but the root is its parent and its change
module _ (ps : List (List ℕ)) (v : ℕ) (h : suc v < length (rooted ps)) where
  node_listed : node_at ps (suc v) ∈ nodes ps
  unfolding rooted
  node_listed = get_d_in (nodes ps) v [] (omega arith)

  parent_at : node_at ps (place (front (front (node_at ps (suc v)))) (rooted ps)) ≡ front (front (node_at ps (suc v)))
  parent_at =
      place_get
      (front (front (node_at ps (suc v))))
      (rooted ps)
      (subst
      (λ l. front (front (node_at ps (suc v))) ∈ l)
      (sym (root_first ps))
      ((nodes_made_lem ps).closed (node_at ps (suc v)) node_listed))

  -- the two last stations, whatever the source
  pub last_is : (source : ℕ)
      → last_of source (node_at ps (suc v))
      ≡ record { alighted = final (front (node_at ps (suc v))); boarded = final (node_at ps (suc v)) }
  last_is source =
      ends
      (node_at ps (suc v))
      ((nodes_made_lem ps).nonempty (node_at ps (suc v)) node_listed)
      ((nodes_made_lem ps).even (node_at ps (suc v)) node_listed)
    where
      ends : (q : List ℕ) → q ≢ [] → Even q
          → last_of source q ≡ record { alighted = final (front q); boarded = final q }
      ends [] h o = absurd (h refl)
      ends (x ∷ []) h o = absurd o
      ends (x ∷ y ∷ q) h o = refl

  pub parent_and_change : (source : ℕ)
      → changing (node_at ps (place (front (front (node_at ps (suc v)))) (rooted ps)))
      (last_of source (node_at ps (suc v)))
      ≡ node_at ps (suc v)
  parent_and_change source =
      (λ i. changing (parent_at i) (last_is source i))
      ∙ rejoined
      (node_at ps (suc v))
      ((nodes_made_lem ps).nonempty (node_at ps (suc v)) node_listed)
      ((nodes_made_lem ps).even (node_at ps (suc v)) node_listed)
