-- What a call at a node or arc makes of what the call at the node before it wrote.
use mathlib.Core.Path.{◌≡◌, refl, sym, ap, ◌∙◌}
use mathlib.Core.List.{List, [], ◌∷◌, ◌++◌, append_assoc}
use Prim.Native.Nat.{ℕ, ◌+◌, ◌*◌, ◌≤◌, ◌<◌}
use native.Mathlib.Numerals.{add-one}
use native.Mathlib.Omega.{arith}
use lib.ListN.{length, take, set, length-append, length-set}
use lib.Seq.{take-suc-set}
use Rattle.query_store.specs.Entries.{node_count, arc_count, node_alighted, node_boarded, node_parent, arc_target}
use Rattle.query_store.specs.Entries.{arc_before}
use Rattle.query_store.specs.Paths.{node_path, arc_path, root_path, arc_path_lem}
use Rattle.query_store.specs.Made.{Made, node_falls, node_path_lem}

-- ---- the root
module _ (s out : List ℕ) (node : ℕ) (e : node ≡ 0) where
  pub root_words : take 0 out ≡ node_path s node
  root_words = sym (ap (node_path s) e ∙ root_path s)

  pub root_count : 0 ≡ length (node_path s node)
  root_count = ap length root_words

add_two : (k : ℕ) → k + 1 + 1 ≡ k + 2
add_two k = omega arith

-- ---- one station more, behind the k stations q
module _ (q whole : List ℕ) (x k : ℕ) (is : whole ≡ q ++ (x ∷ [])) (is-k : k ≡ length q) where
  one_more : k + 1 ≡ length whole
  one_more = omega (arith, ap length is, length-append q (x ∷ []))

  written : (mid : List ℕ) (y : ℕ) → y ≡ x → take k mid ≡ q → k < length mid → take (k + 1) (set mid k y) ≡ whole
  written mid y e f h =
      ap (λ i. take i (set mid k y)) (add-one k)
      ∙ take-suc-set mid k y h
      ∙ rw (f, e, is)

-- ---- a node
module _ (s : List ℕ) (node : ℕ) (m : Made s) (some : node ≡ 0 → ⊥) (known : node ≤ node_count s) where
  pub node_first : 1 ≤ node
  node_first = omega (arith, some)

  pub node_present : 3 * node + 1 < length s
  node_present = omega (arith, m.present)

  module _ (p : ℕ) (is-p : p ≡ node_parent s node) where
    parent_falls : p < node
    parent_falls = omega (arith, node_falls s node m some known)

    pub parent_below : (t : ℕ) → node ≡ t → p < t
    parent_below t e = omega (arith, parent_falls)

    pub parent_known : p ≤ node_count s
    parent_known = omega (arith, parent_falls)

    -- the parent's stations, then where one alights
    abbrev alighting : List ℕ
    alighting = node_path s p ++ (node_alighted s node ∷ [])

    path : node_path s node ≡ alighting ++ (node_boarded s node ∷ [])
    path =
        node_path_lem s node m some known
        ∙ ap (λ v. node_path s v ++ (node_alighted s node ∷ node_boarded s node ∷ [])) (sym is-p)
        ∙ sym (append_assoc (node_path s p) (node_alighted s node ∷ []) (node_boarded s node ∷ []))

    longer : length (node_path s node) ≡ length (node_path s p) + 2
    longer =
        omega (
          arith,
          ap length path,
          length-append alighting (node_boarded s node ∷ []),
          length-append (node_path s p) (node_alighted s node ∷ []),
        )

    module _ (out : List ℕ) (room : length (node_path s node) ≤ length out) where
      pub parent_room : length (node_path s p) ≤ length out
      parent_room = omega (arith, longer)

      module _ (k : ℕ) (is-k : k ≡ length (node_path s p)) where
        pub node_count_lem : k + 2 ≡ length (node_path s node)
        node_count_lem = omega (arith, longer)

        module _ (mid : List ℕ) (kept : length mid ≡ length out) where
          pub node_room : k + 1 < length mid
          node_room = omega (arith, longer)

          pub node_begin : k < length mid
          node_begin = omega (arith, node_room)

          pub node_second : (y : ℕ) → k + 1 < length (set mid k y)
          node_second y = omega (arith, node_room, length-set mid k y)

          pub node_words : (y z : ℕ) → y ≡ node_alighted s node → z ≡ node_boarded s node → take k mid ≡ node_path s p
              → take (k + 2) (set (set mid k y) (k + 1) z) ≡ node_path s node
          node_words y z e f g =
              let first = written (node_path s p) alighting (node_alighted s node) k refl is-k mid y e g node_begin in
              let long : k + 1 ≡ length alighting =
              one_more (node_path s p) alighting (node_alighted s node) k refl is-k in
              ap (λ i. take i (set (set mid k y) (k + 1) z)) (sym (add_two k))
              ∙ written alighting (node_path s node) (node_boarded s node) (k + 1) path long (set mid k y) z f first
              (node_second y)

-- ---- an arc
module _ (s : List ℕ) (i : ℕ) (m : Made s) (h : i < arc_count s) where
  module _ (p : ℕ) (is-p : p ≡ arc_before s i) where
    pub before_known : p ≤ node_count s
    before_known = omega (arith, m.known i h)

    arc_is : arc_path s i ≡ node_path s p ++ (arc_target s i ∷ [])
    arc_is = arc_path_lem s i h ∙ ap (λ v. node_path s v ++ (arc_target s i ∷ [])) (sym is-p)

    arc_longer : length (arc_path s i) ≡ length (node_path s p) + 1
    arc_longer = sym (one_more (node_path s p) (arc_path s i) (arc_target s i) (length (node_path s p)) arc_is refl)

    module _ (out : List ℕ) (room : 128 ≤ length out) where
      pub before_room : length (node_path s p) ≤ length out
      before_room = omega (arith, arc_longer, m.short i h)

      module _ (k : ℕ) (is-k : k ≡ length (node_path s p)) where
        pub arc_depth : k < 128
        arc_depth = omega (arith, arc_longer, m.short i h)

        pub arc_length : k + 1 ≡ length (arc_path s i)
        arc_length = omega (arith, arc_longer)

        pub arc_short : k + 1 ≤ 127
        arc_short = omega (arith, arc_longer, m.short i h)

        module _ (mid : List ℕ) (kept : length mid ≡ length out) where
          pub arc_room : k < length mid
          arc_room = omega (arith, arc_longer, m.short i h)

          pub arc_words_lem : (y : ℕ) → y ≡ arc_target s i → take k mid ≡ node_path s p
              → take (k + 1) (set mid k y) ≡ arc_path s i
          arc_words_lem y e f =
              written (node_path s p) (arc_path s i) (arc_target s i) k arc_is is-k mid y e f arc_room

pub kept_twice : (mid out : List ℕ) (k y i z : ℕ) → length mid ≡ length out
    → length (set (set mid k y) i z) ≡ length out
kept_twice mid out k y i z e = length-set (set mid k y) i z ∙ length-set mid k y ∙ e

pub kept_length : (mid out : List ℕ) (k y : ℕ) → length mid ≡ length out → length (set mid k y) ≡ length out
kept_length mid out k y e = length-set mid k y ∙ e
