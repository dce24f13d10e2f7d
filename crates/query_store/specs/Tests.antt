-- Question 13 in the order in which it is decided: the counts, the nodes one by one, the arcs one by one.
use Rattle.std.specs.Prelude.{◌≡◌, refl, Bool, true, false, ◌&&◌, ◌||◌, leb, ltb, length, drop}
use Rattle.std.proofs.Common.{sym, subst, ◌∙◌, arith, drop-cons}
use Rattle.std.proofs.Math.Path.{ap}
use Rattle.std.proofs.Math.Bool.{not}
use mathlib.Core.List.{List, [], ◌∷◌, map}
use Prim.Native.Nat.{ℕ, suc, ◌+◌, ◌*◌, ◌≤◌, ◌<◌}
use Rattle.std.proofs.Math.Numerals.{add-one}
use borrow.Author.Tests.{le-leb, lt-leb}
use Rattle.std.proofs.Math.Dec.{T, leb→le, nleb→lt}
use Rattle.std.proofs.Math.ListN.{drop_of_length-le}
use Rattle.lists.specs.Lists.{any, before}
use Rattle.lists.specs.Tests.{either, reads}
use Rattle.stores.specs.Words.{node_threes, arc_pairs, follow, chains, readable, is_station, nodes_made, arcs_made}
use Rattle.stores.specs.Words.{arcs_rise, long, entries_most, well_made}
use Rattle.query_store.specs.Entries.{node_count, arc_count, node_alighted, node_boarded, node_parent, arc_target}
use Rattle.query_store.specs.Entries.{arc_before, length_nodes, length_arcs, node_at, arc_at}
use Rattle.query_store.specs.Paths.{node_path, arc_path, arc_path_lem}

-- "all words present, n and m at most 16,383"
unfoldable pub present_test : List ℕ → Bool
present_test s =
    leb (2 + 3 * node_count s + 2 * arc_count s) (length s)
    && leb (node_count s) entries_most
    && leb (arc_count s) entries_most

module _ (s : List ℕ) (yes : present_test s ≡ true) where
  tests : T (present_test s)
  tests = subst T (sym yes) tt

  pub present_words : 2 + 3 * node_count s + 2 * arc_count s ≤ length s
  unfolding present_test
  present_words = let t = tests in search reads

  pub present_nodes : node_count s ≤ entries_most
  unfolding present_test
  present_nodes = let t = tests in search reads

  pub present_arcs : arc_count s ≤ entries_most
  unfolding present_test
  present_arcs = let t = tests in search reads

-- ---- the nodes
-- node v + 1
unfoldable pub node_test : (k : ℕ) (s : List ℕ) (v : ℕ) → Bool
node_test k s v =
    is_station k (node_alighted s (v + 1)) && is_station k (node_boarded s (v + 1)) && ltb (node_parent s (v + 1))
    (suc v)

-- the nodes behind node v
unfoldable pub nodes_test : (k : ℕ) (s : List ℕ) (v : ℕ) → Bool
nodes_test k s v = nodes_made k (suc v) (drop v (node_threes s))

module _ (k : ℕ) (s : List ℕ) (v : ℕ) where
  pub nodes_end : node_count s ≤ v → nodes_test k s v ≡ true
  unfolding nodes_test
  nodes_end h = rw (drop_of_length-le (node_threes s) {i = v} (omega (arith, length_nodes s)))

  pub nodes_next : v < node_count s → nodes_test k s v ≡ (node_test k s v && nodes_test k s (v + 1))
  unfolding nodes_test node_test
  nodes_next h =
      rw (drop-cons (node_threes s) v [] (omega (arith, length_nodes s)), node_at s v h, add-one v)

-- ---- the arcs
-- arc i, of k stations, and its sequence is not too long
unfoldable pub arc_test : (k : ℕ) (s : List ℕ) (i : ℕ) → Bool
arc_test k s i =
    is_station k (arc_target s i) && leb (arc_before s i) (node_count s) && not (long (arc_path s i))

-- arc i is the last, or comes before the next
unfoldable pub rises_test : (s : List ℕ) (i : ℕ) → Bool
rises_test s i =
    leb (arc_count s) (i + 1)
    || before (arc_target s i ∷ arc_before s i ∷ []) (arc_target s (i + 1) ∷ arc_before s (i + 1) ∷ [])

-- the arcs from arc i on
unfoldable pub arcs_test : (k : ℕ) (s : List ℕ) (i : ℕ) → Bool
arcs_test k s i =
    let l = drop i (arc_pairs s) in
    arcs_made k (node_count s) l
    && arcs_rise l
    && not (any long (map (follow (chains ([] ∷ []) (node_threes s))) l))

-- what is said of the first arc and of those behind it, arc by arc
weave : (a as' b bs c cs : Bool)
    → (a && as' && (b && bs) && not (c || cs)) ≡ (a && not c && b && (as' && bs && not cs))
weave false as' b bs c cs = refl
weave true false b bs true cs = refl
weave true false true bs false cs = refl
weave true false false bs false cs = refl
weave true true false bs true cs = refl
weave true true false bs false cs = refl
weave true true true false true cs = refl
weave true true true false false cs = refl
weave true true true true true cs = refl
weave true true true true false cs = refl

module _ (k : ℕ) (s : List ℕ) (i : ℕ) where
  pub arcs_end : arc_count s ≤ i → arcs_test k s i ≡ true
  unfolding arcs_test
  arcs_end h = rw (drop_of_length-le (arc_pairs s) {i = i} (omega (arith, length_arcs s)))

  abbrev arc : ℕ → List ℕ
  arc i = arc_target s i ∷ arc_before s i ∷ []

  arcs_left : (i : ℕ) → i < arc_count s → drop i (arc_pairs s) ≡ arc i ∷ drop (i + 1) (arc_pairs s)
  arcs_left i h =
      drop-cons (arc_pairs s) i [] (omega (arith, length_arcs s)) ∙ rw (arc_at s i h, add-one i)

  abbrev RiseNext : Type 0
  RiseNext = arcs_rise (arc i ∷ drop (i + 1) (arc_pairs s)) ≡ (rises_test s i && arcs_rise (drop (i + 1) (arc_pairs s)))

  rise_next : i < arc_count s → RiseNext
  unfolding rises_test
  rise_next h = either (leb (arc_count s) (i + 1)) at_end before_end
    where
      at_end : T (leb (arc_count s) (i + 1)) → RiseNext
      at_end t =
          let g = leb→le (arc_count s) (i + 1) t in
          rw (
            drop_of_length-le (arc_pairs s) {i = i + 1} (omega (arith, length_arcs s)),
            le-leb (arc_count s) (i + 1) g,
          )

      before_end : T (not (leb (arc_count s) (i + 1))) → RiseNext
      before_end t =
          let g = nleb→lt (arc_count s) (i + 1) t in
          rw (arcs_left (i + 1) g, lt-leb (arc_count s) (i + 1) g)

  pub arcs_next : i < arc_count s → arcs_test k s i ≡ (arc_test k s i && rises_test s i && arcs_test k s (i + 1))
  unfolding arcs_test arc_test node_path
  arcs_next h =
      ap (λ l. arcs_made k n l && arcs_rise l && not (any long (map f l))) (arcs_left i h)
      ∙ (λ z.
      listed && arcs_made k n rest && rise_next h z && not (long (sym (arc_path_lem s i h) z) || any long (map f rest)))
      ∙ weave listed (arcs_made k n rest) (rises_test s i) (arcs_rise rest) (long (arc_path s i))
      (any long (map f rest))
    where
      n : ℕ
      n = node_count s

      f : List ℕ → List ℕ
      f = follow (chains ([] ∷ []) (node_threes s))

      rest : List (List ℕ)
      rest = drop (i + 1) (arc_pairs s)

      listed : Bool
      listed = is_station k (arc_target s i) && leb (arc_before s i) n

-- ---- all of them, in this order
regroup : (a b c d : Bool) → (a && b && c && d) ≡ (a && (b && c && d))
regroup true b c d = refl
regroup false b c d = refl

pub decided : (k : ℕ) (s : List ℕ) → well_made k s ≡ (present_test s && nodes_test k s 0 && arcs_test k s 0)
unfolding well_made present_test nodes_test arcs_test readable
decided k s =
    regroup
    (present_test s && nodes_test k s 0)
    (arcs_made k (node_count s) (arc_pairs s))
    (arcs_rise (arc_pairs s))
    (not (any long (readable s)))
