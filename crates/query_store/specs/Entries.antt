-- The nodes and arcs of a store by number: which words tell them. Nodes count from 1, since 0 is the root, and arcs
-- from 0.
use Rattle.std.specs.Prelude.{◌≡◌, refl, ℕ, zero, suc, ◌+◌, ◌-◌, ◌*◌, ◌<◌, length, drop}
use Rattle.std.proofs.Math.Path.{sym, ap}
use Rattle.std.proofs.Common.{◌∙◌, arith}
use mathlib.Core.List.{List, [], ◌∷◌}
use Rattle.std.proofs.Math.ListN.{get_or}
use Rattle.std.proofs.Math.Seq.{get_or-drop}
use Rattle.stores.specs.Words.{pairs, threes, node_threes, arc_pairs}

abbrev pub node_count : List ℕ → ℕ
node_count s = get_or s 0 0

abbrev pub arc_count : List ℕ → ℕ
arc_count s = get_or s 1 0

-- the stations alighted and boarded at of node v, and its parent
unfoldable pub node_alighted : List ℕ → ℕ → ℕ
node_alighted s v = get_or s (3 * v - 1) 0

unfoldable pub node_boarded : List ℕ → ℕ → ℕ
node_boarded s v = get_or s (3 * v) 0

unfoldable pub node_parent : List ℕ → ℕ → ℕ
node_parent s v = get_or s (3 * v + 1) 0

-- the target of arc k, and its predecessor
unfoldable pub arc_target : List ℕ → ℕ → ℕ
arc_target s k = get_or (get_or (arc_pairs s) k []) 0 0

unfoldable pub arc_before : List ℕ → ℕ → ℕ
arc_before s k = get_or (get_or (arc_pairs s) k []) 1 0

pub length_pairs : (k : ℕ) (w : List ℕ) → length (pairs k w) ≡ k
length_pairs zero w = refl
length_pairs (suc k) w = ap suc (length_pairs k (drop 2 w))

pub pair_at : (k : ℕ) (w : List ℕ) (i : ℕ) → i < k
    → get_or (pairs k w) i [] ≡ get_or w (2 * i) 0 ∷ get_or w (2 * i + 1) 0 ∷ []
pair_at zero w i h = absurd (omega arith)
pair_at (suc k) w zero h = refl
pair_at (suc k) w (suc i) h =
    pair_at k (drop 2 w) i (omega arith)
    ∙ λ z. first z ∷ second z ∷ []
  where
    first : get_or (drop 2 w) (2 * i) 0 ≡ get_or w (2 * suc i) 0
    first = get_or-drop 2 w (2 * i) 0 ∙ ap (λ j. get_or w j 0) (omega arith)

    second : get_or (drop 2 w) (2 * i + 1) 0 ≡ get_or w (2 * suc i + 1) 0
    second = get_or-drop 2 w (2 * i + 1) 0 ∙ ap (λ j. get_or w j 0) (omega arith)

pub length_threes : (k : ℕ) (w : List ℕ) → length (threes k w) ≡ k
length_threes zero w = refl
length_threes (suc k) w = ap suc (length_threes k (drop 3 w))

pub three_at : (k : ℕ) (w : List ℕ) (i : ℕ) → i < k
    → get_or (threes k w) i [] ≡ get_or w (3 * i) 0 ∷ get_or w (3 * i + 1) 0 ∷ get_or w (3 * i + 2) 0 ∷ []
three_at zero w i h = absurd (omega arith)
three_at (suc k) w zero h = refl
three_at (suc k) w (suc i) h =
    three_at k (drop 3 w) i (omega arith)
    ∙ λ z. first z ∷ next 1 z ∷ next 2 z ∷ []
  where
    first : get_or (drop 3 w) (3 * i) 0 ≡ get_or w (3 * suc i) 0
    first = get_or-drop 3 w (3 * i) 0 ∙ ap (λ j. get_or w j 0) (omega arith)

    next : (j : ℕ) → get_or (drop 3 w) (3 * i + j) 0 ≡ get_or w (3 * suc i + j) 0
    next j = get_or-drop 3 w (3 * i + j) 0 ∙ ap (λ j. get_or w j 0) (omega arith)

module _ (s : List ℕ) where
  pub length_nodes : length (node_threes s) ≡ node_count s
  length_nodes = length_threes (node_count s) (drop 2 s)

  pub length_arcs : length (arc_pairs s) ≡ arc_count s
  length_arcs = length_pairs (arc_count s) (drop (3 * node_count s) (drop 2 s))

  -- node v + 1
  pub node_at : (v : ℕ) → v < node_count s
      → get_or (node_threes s) v [] ≡ node_alighted s (v + 1) ∷ node_boarded s (v + 1) ∷ node_parent s (v + 1) ∷ []
  unfolding node_alighted node_boarded node_parent
  node_at v h = three_at (node_count s) (drop 2 s) v h ∙ λ z. first z ∷ second z ∷ third z ∷ []
    where
      first : get_or (drop 2 s) (3 * v) 0 ≡ get_or s (3 * (v + 1) - 1) 0
      first = get_or-drop 2 s (3 * v) 0 ∙ ap (λ j. get_or s j 0) (omega arith)

      second : get_or (drop 2 s) (3 * v + 1) 0 ≡ get_or s (3 * (v + 1)) 0
      second = get_or-drop 2 s (3 * v + 1) 0 ∙ ap (λ j. get_or s j 0) (omega arith)

      third : get_or (drop 2 s) (3 * v + 2) 0 ≡ get_or s (3 * (v + 1) + 1) 0
      third = get_or-drop 2 s (3 * v + 2) 0 ∙ ap (λ j. get_or s j 0) (omega arith)

  module _ (k : ℕ) (h : k < arc_count s) where
    pub arc_at : get_or (arc_pairs s) k [] ≡ arc_target s k ∷ arc_before s k ∷ []
    unfolding arc_target arc_before
    arc_at =
        let e = pair_at (arc_count s) (drop (3 * node_count s) (drop 2 s)) k h in
        e ∙ sym (λ z. get_or (e z) 0 0 ∷ get_or (e z) 1 0 ∷ [])

    arc_word : (i : ℕ) → get_or (drop (3 * node_count s) (drop 2 s)) i 0 ≡ get_or s (2 + 3 * node_count s + i) 0
    arc_word i =
        get_or-drop (3 * node_count s) (drop 2 s) i 0
        ∙ get_or-drop 2 s (3 * node_count s + i) 0
        ∙ ap (λ j. get_or s j 0) (omega arith)

    pub target_word : arc_target s k ≡ get_or s (2 + 3 * node_count s + 2 * k) 0
    unfolding arc_target
    target_word =
        ap (λ p. get_or p 0 0) (pair_at (arc_count s) (drop (3 * node_count s) (drop 2 s)) k h) ∙ arc_word (2 * k)

    pub before_word : arc_before s k ≡ get_or s (2 + 3 * node_count s + 2 * k + 1) 0
    unfolding arc_before
    before_word =
        ap (λ p. get_or p 1 0) (pair_at (arc_count s) (drop (3 * node_count s) (drop 2 s)) k h)
        ∙ arc_word (2 * k + 1)
        ∙ ap (λ j. get_or s j 0) (omega arith)
