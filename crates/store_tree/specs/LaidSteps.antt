-- The words of a store one part more at a time, as loops write them.
use Rattle.std.specs.Prelude.{◌≡◌, refl, List, [], ◌∷◌, ◌++◌, get_or}
use Rattle.std.proofs.Common.{sym, ◌∙◌, add-one, eq-eqb, ne_eqb}
use Rattle.std.proofs.Math.Path.{ap}
use Prim.Native.Nat.{ℕ, zero, suc, ◌+◌, ◌-◌, ◌*◌, ◌≤◌, ◌<◌}
use native.Mathlib.Omega.{arith}
use Rattle.std.proofs.Math.ListN.{length}
use Rattle.lists.specs.Lists.{concat_map, range}
use Rattle.lists.specs.Ranges.{range_more, range_none}
use Rattle.store_tree.specs.Tree.{arcs_in}
use Rattle.store_tree.specs.Laid.{entry_at, entries_to, arc_words, hits_to, node_hits, total, hits_of}

-- ---- the nodes
module _ (t w : List ℕ) where
  pub entries_more : (v end : ℕ) → v < end → entries_to t w v end ≡ entry_at t w v ++ entries_to t w (v + 1) end
  unfolding entries_to
  entries_more v end h = ap (concat_map (entry_at t w)) (range_more v end h)

  pub entries_none : (v end : ℕ) → end ≤ v → entries_to t w v end ≡ []
  unfolding entries_to
  entries_none v end h = ap (concat_map (entry_at t w)) (range_none v end h)

  long_entries : (v k : ℕ) → length (concat_map (entry_at t w) (range v k)) ≡ 3 * k
  long_entries v zero = refl
  long_entries v (suc k) = omega (arith, long_entries (suc v) k)

  pub length_entries : (n : ℕ) → length (entries_to t w 1 (suc n)) ≡ 3 * n
  unfolding entries_to
  length_entries n =
      let many : suc n - 1 ≡ n = omega arith in
      ap (λ k. length (concat_map (entry_at t w) (range 1 k))) many ∙ long_entries 1 n

-- ---- the arcs of a node
module _ (target b v : ℕ) where
  pub arc_yes : target ≡ b → arc_words target b v ≡ b ∷ v ∷ []
  unfolding arc_words
  arc_yes e = rw (eq-eqb target b e)

  pub arc_no : (target ≡ b → ⊥) → arc_words target b v ≡ []
  unfolding arc_words
  arc_no e = rw (ne_eqb target b e)

module _ (ts : List ℕ) (b v i end : ℕ) where
  pub hits_more : i < end → hits_to ts b v i end ≡ arc_words (get_or ts i 0) b v ++ hits_to ts b v (i + 1) end
  unfolding hits_to
  hits_more h = ap (concat_map (λ i. arc_words (get_or ts i 0) b v)) (range_more i end h)

  pub hits_none : end ≤ i → hits_to ts b v i end ≡ []
  unfolding hits_to
  hits_none h = ap (concat_map (λ i. arc_words (get_or ts i 0) b v)) (range_none i end h)

-- ---- the arcs to a station
module _ (w ts : List ℕ) (b i v end : ℕ) where
  pub nodes_more : v < end
      → node_hits w ts b i v (end - v)
      ≡ hits_to ts b v i (i + arcs_in (get_or w v 0))
      ++ node_hits w ts b (i + arcs_in (get_or w v 0)) (v + 1) (end - (v + 1))
  unfolding node_hits
  nodes_more h =
      let more : end - v ≡ suc (end - (v + 1)) = omega arith in
      ap (node_hits w ts b i v) more
      ∙ ap
      (λ u.
      hits_to ts b v i (i + arcs_in (get_or w v 0)) ++ node_hits w ts b (i + arcs_in (get_or w v 0)) u (end - (v + 1)))
      (sym (add-one v))

  pub nodes_none : end ≤ v → node_hits w ts b i v (end - v) ≡ []
  unfolding node_hits
  nodes_none h =
      let none : end - v ≡ 0 = omega arith in
      ap (node_hits w ts b i v) none

pub total_more : (w : List ℕ) (v end : ℕ) → v < end
    → total w v (end - v) ≡ arcs_in (get_or w v 0) + total w (v + 1) (end - (v + 1))
unfolding total
total_more w v end h =
    let more : end - v ≡ suc (end - (v + 1)) = omega arith in
    ap (total w v) more ∙ ap (λ u. arcs_in (get_or w v 0) + total w u (end - (v + 1))) (sym (add-one v))

-- ---- the arcs to all stations
module _ (w ts : List ℕ) (n b end : ℕ) where
  pub stations_more : b < end → hits_of w ts n b end ≡ node_hits w ts b 0 0 (suc n) ++ hits_of w ts n (b + 1) end
  unfolding hits_of
  stations_more h = ap (concat_map (λ b. node_hits w ts b 0 0 (suc n))) (range_more b end h)

  pub stations_none : end ≤ b → hits_of w ts n b end ≡ []
  unfolding hits_of
  stations_none h = ap (concat_map (λ b. node_hits w ts b 0 0 (suc n))) (range_none b end h)
