-- What question 13 grants: a well-made store is one that can be read, its sequences are of listed stations, none is
-- empty or too long, each ends at its arc's target, and arcs with one target stand together.
use Rattle.std.specs.Prelude.{◌≡◌, Bool, true, not, ◌&&◌, length}
use Rattle.std.proofs.Common.{sym, subst, ◌∙◌, le_refl, add-one}
use mathlib.Core.List.{List, [], ◌∷◌, ◌++◌}
use Prim.Native.Nat.{ℕ, zero, suc, ◌+◌, ◌≤◌, ◌<◌}
use native.Mathlib.Omega.{arith}
use Rattle.std.proofs.Math.Dec.{T, nltb→le}
use Rattle.lists.specs.Lists.{◌∈◌}
use Rattle.lists.specs.Tests.{reads, and_left, and_right}
use Rattle.lists.specs.Members.{none, cons_cases, append_cases}
use Rattle.lists.specs.Pigeonhole.{Within}
use Rattle.lists.specs.Places.{get_d_in}
use Rattle.stores.specs.Words.{readable, long, well_made, entries_most}
use Rattle.query_store.specs.Entries.{node_count, arc_count, node_alighted, node_boarded, node_parent, arc_target}
use Rattle.query_store.specs.Entries.{arc_before}
use Rattle.query_store.specs.Paths.{node_path, arc_path, root_path, next_path, arc_path_lem, length_readable}
use Rattle.query_store.specs.Tests.{present_test, node_test, nodes_test, arc_test, rises_test, arcs_test}
use Rattle.query_store.specs.Tests.{present_words, present_arcs, nodes_next, arcs_next, decided}
use Rattle.query_store.specs.Made.{Made}

passed : (b : Bool) → b ≡ true → T b
passed b e = subst T (sym e) tt

-- ---- sequences of any store
-- the sequences that can be read are those of the arcs
module _ (s : List ℕ) where
  pub readable_in : (i : ℕ) → i < arc_count s → arc_path s i ∈ readable s
  unfolding arc_path
  readable_in i h = get_d_in (readable s) i [] (omega (arith, length_readable s))

-- ---- what was tested of each node and arc
module _ (k : ℕ) (s : List ℕ) (yes : well_made k s ≡ true) where
  all_tests : (present_test s && nodes_test k s 0 && arcs_test k s 0) ≡ true
  all_tests = sym (decided k s) ∙ yes

  first_tests : (present_test s && nodes_test k s 0) ≡ true
  first_tests = and_left (present_test s && nodes_test k s 0) (arcs_test k s 0) all_tests

  nodes_yes : (v : ℕ) → v ≤ node_count s → nodes_test k s v ≡ true
  nodes_yes zero h = and_right (present_test s) (nodes_test k s 0) first_tests
  nodes_yes (suc v) h =
      subst
      (λ u. nodes_test k s u ≡ true)
      (add-one v)
      (and_right (node_test k s v) (nodes_test k s (v + 1)) (sym (nodes_next k s v h) ∙ nodes_yes v (omega arith)))

  arcs_yes : (i : ℕ) → i ≤ arc_count s → arcs_test k s i ≡ true
  arcs_yes zero h = and_right (present_test s && nodes_test k s 0) (arcs_test k s 0) all_tests
  arcs_yes (suc i) h =
      subst
      (λ j. arcs_test k s j ≡ true)
      (add-one i)
      (and_right
      (arc_test k s i && rises_test s i)
      (arcs_test k s (i + 1))
      (sym (arcs_next k s i h) ∙ arcs_yes i (omega arith)))

  -- node v + 1
  module _ (v : ℕ) (h : v < node_count s) where
    node_test_lem : T (node_test k s v)
    node_test_lem =
        passed
        (node_test k s v)
        (and_left (node_test k s v) (nodes_test k s (v + 1)) (sym (nodes_next k s v h) ∙ nodes_yes v (omega arith)))

    pub node_alighted_lem : (1 ≤ node_alighted s (v + 1)) × (node_alighted s (v + 1) ≤ k)
    unfolding node_test
    node_alighted_lem = let t = node_test_lem in (search reads, search reads)

    pub node_boarded_lem : (1 ≤ node_boarded s (v + 1)) × (node_boarded s (v + 1) ≤ k)
    unfolding node_test
    node_boarded_lem = let t = node_test_lem in (search reads, search reads)

    pub node_below : node_parent s (v + 1) ≤ v
    unfolding node_test
    node_below =
        let t = node_test_lem in
        let l : node_parent s (v + 1) < suc v = search reads in
        omega arith

  module _ (i : ℕ) (h : i < arc_count s) where
    both_tests : (arc_test k s i && rises_test s i) ≡ true
    both_tests =
        and_left
        (arc_test k s i && rises_test s i)
        (arcs_test k s (i + 1))
        (sym (arcs_next k s i h) ∙ arcs_yes i (omega arith))

    arc_test_lem : T (arc_test k s i)
    arc_test_lem = passed (arc_test k s i) (and_left (arc_test k s i) (rises_test s i) both_tests)

    pub arc_listed : (1 ≤ arc_target s i) × (arc_target s i ≤ k)
    unfolding arc_test
    arc_listed = let t = arc_test_lem in (search reads, search reads)

    pub arc_known : arc_before s i ≤ node_count s
    unfolding arc_test
    arc_known = let t = arc_test_lem in search reads

    pub arc_short : length (arc_path s i) ≤ 127
    unfolding arc_test
    arc_short =
        let t = arc_test_lem in
        let l : T (not (long (arc_path s i))) = search reads in
        omega (arith, nltb→le 128 (suc (length (arc_path s i))) l)

  present : present_test s ≡ true
  present = and_left (present_test s) (nodes_test k s 0) first_tests

  pub few_arcs : arc_count s ≤ entries_most
  few_arcs = present_arcs s present

  pub made : Made s
  made =
      record {
        present = present_words s present;
        falls = node_below;
        known = arc_known;
        short = arc_short;
      }

  -- ---- listed stations
  listed_more : (q r : List ℕ) → Within k q → Within k r → Within k (q ++ r)
  listed_more q r w v z m = append_cases q m (w z) (v z)

  listed_first : (x : ℕ) (q : List ℕ) → (1 ≤ x) × (x ≤ k) → Within k q → Within k (x ∷ q)
  listed_first x q l w z m = cons_cases m (λ e. subst (λ y. (1 ≤ y) × (y ≤ k)) (sym e) l) (w z)

  listed_none : Within k []
  listed_none z m = none m

  -- by the numbers of nodes, f at most
  within_most : (f v : ℕ) → v ≤ f → v ≤ node_count s → Within k (node_path s v)
  within_most zero zero h g = subst (Within k) (sym (root_path s)) listed_none
  within_most zero (suc v) h g = absurd (omega arith)
  within_most (suc f) zero h g = subst (Within k) (sym (root_path s)) listed_none
  within_most (suc f) (suc v) h g =
      subst (λ u. Within k (node_path s u)) (add-one v) (go (within_most f))
    where
      go : ((u : ℕ) → u ≤ f → u ≤ node_count s → Within k (node_path s u))
          → Within k (node_path s (v + 1))
      go ih =
          let l = node_below v g in
          subst
          (Within k)
          (sym (next_path s v g l))
          (listed_more
          (node_path s (node_parent s (v + 1)))
          (node_alighted s (v + 1) ∷ node_boarded s (v + 1) ∷ [])
          (ih (node_parent s (v + 1)) (omega arith) (omega arith))
          (listed_first
          (node_alighted s (v + 1))
          (node_boarded s (v + 1) ∷ [])
          (node_alighted_lem v g)
          (listed_first (node_boarded s (v + 1)) [] (node_boarded_lem v g) listed_none)))

  pub node_within : (v : ℕ) → v ≤ node_count s → Within k (node_path s v)
  node_within v h = within_most v v (le_refl v) h

  pub arc_within : (i : ℕ) → i < arc_count s → Within k (arc_path s i)
  arc_within i h =
      subst
      (Within k)
      (sym (arc_path_lem s i h))
      (listed_more
      (node_path s (arc_before s i))
      (arc_target s i ∷ [])
      (node_within (arc_before s i) (arc_known i h))
      (listed_first (arc_target s i) [] (arc_listed i h) listed_none))
