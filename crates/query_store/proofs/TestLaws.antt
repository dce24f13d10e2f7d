-- The ways out of the functions that decide question 13.
use mathlib.Core.Path.{◌≡◌, refl, sym, ap, subst, ◌∙◌}
use mathlib.Core.Bool.{Bool, true, false, not, ◌&&◌, ◌||◌}
use mathlib.Core.List.{List, [], ◌∷◌}
use Prim.Native.Nat.{ℕ, suc, ◌+◌, ◌*◌, ◌≤◌, ◌<◌}
use native.Mathlib.Omega.{arith}
use borrow.Author.Tests.{le-leb, lt-leb, lt-ltb, le-ltb, eq-eqb, ne_eqb, not-true, not-false}
use lib.Dec.{T, leb, ltb, eqb, leb→le, nleb→lt}
use lib.ListN.{length, get_or, set, length-append, length-set}
use Rattle.lists.specs.Tests.{either}
use Rattle.stores.specs.Words.{is_station, long, well_made, entries_most}
use Rattle.query_store.specs.Entries.{node_count, arc_count, node_alighted, node_boarded, node_parent, arc_target}
use Rattle.query_store.specs.Entries.{arc_before}
use Rattle.query_store.specs.Paths.{node_path, arc_path, arc_path_lem}
use Rattle.query_store.specs.Depths.{Depths, depths_start, depths_more}
use Rattle.query_store.specs.Tests.{present_test, node_test, nodes_test, arc_test, rises_test, arcs_test}
use Rattle.query_store.specs.Tests.{present_words, present_nodes, nodes_end, nodes_next, arcs_end}
use Rattle.query_store.specs.Tests.{arcs_next, decided}

-- ---- a station
module _ (k x : ℕ) where
  pub unlisted : x < 1 → false ≡ is_station k x
  unlisted h = simp (lt-leb 1 x h)

  pub listed : 1 ≤ x → leb x k ≡ is_station k x
  listed h = simp (le-leb 1 x h)

-- ---- the counts
module _ (s : List ℕ) where
  pub no_counts : length s < 2 → false ≡ present_test s
  unfolding present_test
  no_counts h =
      let e : leb (2 + 3 * node_count s + 2 * arc_count s) (length s) ≡ false = omega (arith, lt-leb) in
      rw e

  module _ (n m : ℕ) (is-n : n ≡ node_count s) (is_m : m ≡ arc_count s) where
    pub absent : length s < 2 + 3 * n + 2 * m → false ≡ present_test s
    unfolding present_test
    absent h =
        let e : leb (2 + 3 * node_count s + 2 * arc_count s) (length s) ≡ false = omega (arith, lt-leb) in
        rw e

    module _ (there : 2 + 3 * n + 2 * m ≤ length s) where
      counts : present_test s ≡ (leb n entries_most && leb m entries_most)
      unfolding present_test
      counts =
          let e : leb (2 + 3 * node_count s + 2 * arc_count s) (length s) ≡ true = omega (arith, le-leb) in
          rw (e, is-n, is_m)

      pub many_nodes : entries_most < n → false ≡ present_test s
      many_nodes h = sym (counts ∙ rw (lt-leb n entries_most h))

      pub arcs_decide : n ≤ entries_most → leb m entries_most ≡ present_test s
      arcs_decide h = sym (counts ∙ rw (le-leb n entries_most h))

-- ---- the nodes, one by one
module _ (k : ℕ) (s : List ℕ) (n v : ℕ) (is-n : n ≡ node_count s) (so_far : nodes_test k s 0 ≡ nodes_test k s v) where
  pub nodes_done : n ≤ v → true ≡ nodes_test k s 0
  nodes_done h = sym (so_far ∙ nodes_end k s v (omega arith))

  pub all_noted : n ≤ v → v ≤ n → (w : List ℕ) → Depths s w v → Depths s w (node_count s)
  all_noted h g w d = subst (Depths s w) (omega arith) d

  module _ (more : v < n) (x : ℕ) (is_x : x ≡ node_alighted s (v + 1)) (t : Bool) (is_t : t ≡ is_station k x) where
    node_tests : nodes_test k s 0
        ≡ (t
        && is_station k (node_boarded s (v + 1))
        && ltb (node_parent s (v + 1)) (suc v)
        && nodes_test k s (v + 1))
    unfolding node_test
    node_tests = so_far ∙ nodes_next k s v (omega arith) ∙ rw (is_t, is_x)

    pub node_unlisted : not t ≡ true → false ≡ nodes_test k s 0
    node_unlisted h = sym (node_tests ∙ rw (not-true t h))

    module _ (in_List : not t ≡ false) (y : ℕ) (is_y : y ≡ node_boarded s (v + 1)) (u : Bool)
        (is-u : u ≡ is_station k y) where
      tests_left : nodes_test k s 0 ≡ (u && ltb (node_parent s (v + 1)) (suc v) && nodes_test k s (v + 1))
      tests_left = node_tests ∙ rw (not-false t in_List, is-u, is_y)

      pub node_unboarded : not u ≡ true → false ≡ nodes_test k s 0
      node_unboarded h = sym (tests_left ∙ rw (not-true u h))

      module _ (listed-too : not u ≡ false) (p : ℕ) (is-p : p ≡ node_parent s (v + 1)) where
        pub node_unknown : v < p → false ≡ nodes_test k s 0
        node_unknown h =
            let e : ltb p (suc v) ≡ false = omega (arith, le-ltb) in
            sym (tests_left ∙ rw (not-false u listed-too, ← is-p, e))

        pub node_made : p ≤ v → nodes_test k s 0 ≡ nodes_test k s (v + 1)
        node_made h =
            let e : ltb p (suc v) ≡ true = omega (arith, lt-ltb) in
            tests_left ∙ rw (not-false u listed-too, ← is-p, e)

-- ---- what is noted of them, where x is working space as it is and w as it was
module _ (w x : List ℕ) (kept : length x ≡ length (set w 0 0)) where
  pub same_length : length x ≡ length w
  same_length = kept ∙ length-set w 0 0

  module _ (room : 16384 ≤ length w) (s : List ℕ) (n v : ℕ) (more : v < n) (few : node_count s ≤ entries_most)
      (is-n : n ≡ node_count s) where
    pub node_inside : v + 1 < length x
    node_inside = omega (arith, same_length)

    module _ (p : ℕ) (below : p ≤ v) where
      pub parent_inside : p < length x
      parent_inside = omega (arith, same_length)

      module _ (d : Depths s x v) where
        pub depth_small : get_or x p 0 + 1 < 4294967296
        depth_small = omega (arith, d.few p below)

        pub one_deeper : p ≡ node_parent s (v + 1) → Depths s (set x (v + 1) (get_or x p 0 + 1)) (v + 1)
        one_deeper e = depths_more s x v p d (omega arith) node_inside e below

pub root_noted : (s w : List ℕ) → 16384 ≤ length w → Depths s (set w 0 0) 0
root_noted s w h = depths_start s w (omega arith)

pub nothing_noted : (P : Type 0) → false ≡ true → P
nothing_noted P e = absurd (subst T (sym e) tt)

-- ---- an arc
-- d changes before the target
short : (d l : ℕ) → l ≡ 2 * d + 1 → not (ltb 128 (suc l)) ≡ leb d 63
short d l e = either (leb d 63) low high
  where
    low : T (leb d 63) → not (ltb 128 (suc l)) ≡ leb d 63
    low t =
        let h = leb→le d 63 t in
        let f : ltb 128 (suc l) ≡ false = omega (arith, le-ltb) in
        rw (f, le-leb d 63 h)

    high : T (not (leb d 63)) → not (ltb 128 (suc l)) ≡ leb d 63
    high t =
        let h = nleb→lt d 63 t in
        let f : ltb 128 (suc l) ≡ true = omega (arith, lt-ltb) in
        rw (f, lt-leb d 63 h)

module _ (k : ℕ) (s : List ℕ) (i : ℕ) (x : ℕ) (is_x : x ≡ arc_target s i) (t : Bool)
    (is_t : t ≡ is_station k x) where
  arc_tests : arc_test k s i ≡ (t && leb (arc_before s i) (node_count s) && not (long (arc_path s i)))
  unfolding arc_test
  arc_tests = rw (is_t, is_x)

  pub arc_unlisted : not t ≡ true → false ≡ arc_test k s i
  arc_unlisted h = sym (arc_tests ∙ rw (not-true t h))

  module _ (in_List : not t ≡ false) (n b : ℕ) (is-n : n ≡ node_count s) (is_b : b ≡ arc_before s i) where
    pub arc_unknown : n < b → false ≡ arc_test k s i
    arc_unknown h = sym (arc_tests ∙ rw (not-false t in_List, ← is-n, ← is_b, lt-leb b n h))

    module _ (known : b ≤ n) (w : List ℕ) (d : Depths s w (node_count s)) (h : i < arc_count s) where
      depth : length (arc_path s i) ≡ 2 * get_or w b 0 + 1
      depth =
          let e = d.deep b (omega arith) in
          let f = ap (λ v. length (node_path s v)) is_b in
          let g = length-append (node_path s (arc_before s i)) (arc_target s i ∷ []) in
          omega (arith, ap length (arc_path_lem s i h))

      pub arc_decides : leb (get_or w b 0) 63 ≡ arc_test k s i
      arc_decides =
          sym
          (arc_tests
          ∙ rw (not-false t in_List, ← is-n, ← is_b, le-leb b n known)
          (short (get_or w b 0) (length (arc_path s i)) depth))

-- ---- an arc and the next
only_less : (a b : Bool) → a ≡ (a || b && false)
only_less true b = refl
only_less false true = refl
only_less false false = refl

module _ (s : List ℕ) (i n : ℕ) (is-n : n ≡ arc_count s) where
  pub rises_last : n ≤ i + 1 → true ≡ rises_test s i
  unfolding rises_test
  rises_last h = rw (← is-n, le-leb n (i + 1) h)

  module _ (more : i + 1 < n) (x y : ℕ) (is_x : x ≡ arc_target s i) (is_y : y ≡ arc_target s (i + 1)) where
    pub rises_up : x < y → true ≡ rises_test s i
    unfolding rises_test
    rises_up h = rw (← is-n, ← is_x, ← is_y, lt-leb n (i + 1) more, lt-ltb x y h)

    pub falls_down : y < x → false ≡ rises_test s i
    unfolding rises_test
    falls_down h =
        let e : ltb x y ≡ false = omega (arith, le-ltb) in
        rw (← is-n, ← is_x, ← is_y, lt-leb n (i + 1) more, e, ne_eqb x y (λ e. omega arith))

    module _ (a b : ℕ) (is-a : a ≡ arc_before s i) (is_b : b ≡ arc_before s (i + 1)) where
      pub rises_level : y ≤ x → x ≤ y → ltb a b ≡ rises_test s i
      unfolding rises_test
      rises_level h g =
          rw (
            ← is-n,
            ← is_x,
            ← is_y,
            ← is-a,
            ← is_b,
            lt-leb n (i + 1) more,
            le-ltb x y h,
            eq-eqb x y (omega arith),
          )
          (only_less (ltb a b) (eqb a b))

-- ---- the arcs, one by one
module _ (k : ℕ) (s : List ℕ) (n i : ℕ) (is-n : n ≡ arc_count s) (so_far : arcs_test k s 0 ≡ arcs_test k s i) where
  pub arcs_done : n ≤ i → true ≡ arcs_test k s 0
  arcs_done h = sym (so_far ∙ arcs_end k s i (omega arith))

  module _ (more : i < n) (t : Bool) (is_t : t ≡ arc_test k s i) where
    arc_by_arc : arcs_test k s 0 ≡ (t && rises_test s i && arcs_test k s (i + 1))
    arc_by_arc = so_far ∙ arcs_next k s i (omega arith) ∙ rw is_t

    pub arc_bad : not t ≡ true → false ≡ arcs_test k s 0
    arc_bad h = sym (arc_by_arc ∙ rw (not-true t h))

    module _ (good : not t ≡ false) (u : Bool) (is-u : u ≡ rises_test s i) where
      pub arc_falls : not u ≡ true → false ≡ arcs_test k s 0
      arc_falls h = sym (arc_by_arc ∙ rw (not-false t good, ← is-u, not-true u h))

      pub arc_good : not u ≡ false → arcs_test k s 0 ≡ arcs_test k s (i + 1)
      arc_good h = arc_by_arc ∙ rw (not-false t good, ← is-u, not-false u h)

-- ---- all
module _ (k : ℕ) (s : List ℕ) (t : Bool) (is_t : t ≡ present_test s) where
  pub not_present : not t ≡ true → false ≡ well_made k s
  not_present h = sym (decided k s ∙ rw (← is_t, not-true t h))

  module _ (there : not t ≡ false) where
    yes : present_test s ≡ true
    yes = sym is_t ∙ not-false t there

    pub nodes_there : 2 + 3 * node_count s ≤ length s
    nodes_there = omega (arith, present_words s yes)

    pub all_there : 2 + 3 * node_count s + 2 * arc_count s ≤ length s
    all_there = present_words s yes

    pub few_nodes : node_count s ≤ entries_most
    few_nodes = present_nodes s yes

    module _ (u : Bool) (is-u : u ≡ nodes_test k s 0) where
      pub nodes_bad : not u ≡ true → false ≡ well_made k s
      nodes_bad h = sym (decided k s ∙ rw (yes, ← is-u, not-true u h))

      pub made_decides : not u ≡ false → (r : Bool) → r ≡ arcs_test k s 0 → r ≡ well_made k s
      made_decides good r e = e ∙ sym (decided k s ∙ rw (yes, ← is-u, not-false u good))
