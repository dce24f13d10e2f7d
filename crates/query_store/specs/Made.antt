-- What readers of a store go by: all words are there, numbers lead back to the root, and the sequences of its arcs are
-- short. Granted shows that a well-made store is such a store.
use Rattle.std.specs.Prelude.{◌≡◌, refl, List, [], ◌∷◌, ◌++◌, ℕ, zero, suc, ◌+◌, ◌*◌, ◌≤◌, ◌<◌, length}
use Rattle.std.proofs.Common.{sym, subst, le_refl, add-one, arith}
use Rattle.stores.specs.Sequences.{Odd, Even, even_odd, even_more}
use Rattle.query_store.specs.Entries.{node_count, arc_count, node_alighted, node_boarded, node_parent, arc_target}
use Rattle.query_store.specs.Entries.{arc_before}
use Rattle.query_store.specs.Paths.{node_path, arc_path, root_path, next_path, arc_path_lem}

pub record Made (s : List ℕ) : Type 0 where
  pub present : 2 + 3 * node_count s + 2 * arc_count s ≤ length s
  pub falls : (v : ℕ) → v < node_count s → node_parent s (v + 1) ≤ v
  pub known : (k : ℕ) → k < arc_count s → arc_before s k ≤ node_count s
  pub short : (k : ℕ) → k < arc_count s → length (arc_path s k) ≤ 127

-- a node's parent is below it, and its sequence is the parent's, then its own change
module _ (s : List ℕ) where
  at_next : (node : ℕ) (P : ℕ → Type 0) → (node ≡ 0 → ⊥) → node ≤ node_count s
      → ((v : ℕ) → v < node_count s → P (v + 1)) → P node
  at_next zero P some known f = absurd (some refl)
  at_next (suc v) P some known f = subst P (add-one v) (f v known)

  pub node_falls : (node : ℕ) → Made s → (node ≡ 0 → ⊥) → node ≤ node_count s → node_parent s node < node
  node_falls node m some known =
      at_next node (λ v. node_parent s v < v) some known (λ v h. omega (arith, m.falls v h))

  pub node_path_lem : (node : ℕ) → Made s → (node ≡ 0 → ⊥) → node ≤ node_count s
      → node_path s node ≡ node_path s (node_parent s node) ++ (node_alighted s node ∷ node_boarded s node ∷ [])
  node_path_lem node m some known =
      at_next
      node
      (λ v. node_path s v ≡ node_path s (node_parent s v) ++ (node_alighted s v ∷ node_boarded s v ∷ []))
      some
      known
      (λ v h. next_path s v h (m.falls v h))

  -- the sequence of a node names changes alone: by the numbers of nodes, f at most
  module _ (m : Made s) where
    even_most : (f v : ℕ) → v ≤ f → v ≤ node_count s → Even (node_path s v)
    even_most zero zero h g = subst Even (sym (root_path s)) tt
    even_most zero (suc v) h g = absurd (omega arith)
    even_most (suc f) zero h g = subst Even (sym (root_path s)) tt
    even_most (suc f) (suc v) h g = subst (λ u. Even (node_path s u)) (add-one v) (go (even_most f))
      where
        go : ((u : ℕ) → u ≤ f → u ≤ node_count s → Even (node_path s u)) → Even (node_path s (v + 1))
        go ih =
            let l = m.falls v g in
            subst
            Even
            (sym (next_path s v g l))
            (even_more
            (node_path s (node_parent s (v + 1)))
            (node_alighted s (v + 1))
            (node_boarded s (v + 1))
            (ih (node_parent s (v + 1)) (omega arith) (omega arith)))

    pub node_even : (v : ℕ) → v ≤ node_count s → Even (node_path s v)
    node_even v h = even_most v v (le_refl v) h

    -- and that of an arc its target too
    pub arc_odd : (k : ℕ) → k < arc_count s → Odd (arc_path s k)
    arc_odd k h =
        subst
        Odd
        (sym (arc_path_lem s k h))
        (even_odd (node_path s (arc_before s k)) (arc_target s k) (node_even (arc_before s k) (m.known k h)))
