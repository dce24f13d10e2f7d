-- What the word of a node says, while the tree grows: the slot of its change, its parent, and the arcs of nodes that
-- are taken.
use Rattle.std.specs.Prelude.{◌≡◌, cond, List, ℕ, zero, suc, ◌≤◌, ◌<◌, ltb, length, get_or}
use Rattle.std.proofs.Common.{sym, ap, subst, ◌∙◌, arith, lt-ltb, le-ltb}
use Rattle.lists.specs.Lists.{◌∈◌}
use Rattle.stores.specs.Words.{front, place}
use Rattle.store_slots.specs.Slots.{transfer_at, slots}
use Rattle.store_slots.specs.SlotLaws.{slot_small}
use Rattle.store_tree.specs.Tree.{changing, arcs_of, rooted, node_at, Made, last_of, Word, Grown}
use Rattle.store_tree.specs.Tree.{slot_in, parent_in, arcs_in}
use Rattle.store_tree.specs.NodeWords.{word_slot, word_parent, word_arcs, word_low}
use Rattle.store_tree.specs.Parents.{parent_below, parent_most, parent_and_change}
use Rattle.store_tree.specs.Growth.{grown_listed}

module _
    (w : List ℕ)
    (ps : List (List ℕ))
    (made : Made w ps)
    (source : ℕ)
    (work targets : List ℕ)
    (n m lo : ℕ)
    (g : Grown w ps source work targets n m lo)
    (v : ℕ)
    (on : v ≤ n)
  where
    abbrev word : ℕ
    word = get_or work v 0

    held : Word w ps source lo v word
    held = g.words v on

    abbrev parent : ℕ
    parent = place (front (front (node_at ps v))) (rooted ps)

    abbrev counted : ℕ
    counted = cond (ltb v lo) (length (arcs_of ps (node_at ps v))) 0

    inside : v < length (rooted ps)
    inside = grown_listed w ps made source work targets n m lo g v on

    near_slot : held.slot < 512
    near_slot = omega (arith, slot_small w made.timetable held.slot held.listed)

    near_parent : parent < 16384
    near_parent = omega (arith, parent_most ps v inside, on, g.few_nodes)

    slot_is : slot_in word ≡ held.slot
    slot_is = ap slot_in held.is ∙ word_slot held.slot parent counted near_slot

    pub says_listed : slot_in word ∈ slots w
    says_listed = subst (λ s. s ∈ slots w) (sym slot_is) held.listed

    pub says_slot : transfer_at w (slot_in word) ≡ last_of source (node_at ps v)
    says_slot = ap (transfer_at w) slot_is ∙ held.stands

    pub says_parent : parent_in word ≡ place (front (front (node_at ps v))) (rooted ps)
    says_parent = ap parent_in held.is ∙ word_parent held.slot parent counted near_slot near_parent

    pub says_arcs : v < lo → arcs_in word ≡ length (arcs_of ps (node_at ps v))
    says_arcs h =
        ap arcs_in held.is
        ∙ word_arcs held.slot parent counted near_slot near_parent
        ∙ ap (λ t. cond t (length (arcs_of ps (node_at ps v))) 0) (lt-ltb v lo h)

    -- a node that is not taken has no arcs in its word
    pub says_fresh : lo ≤ v → word < 8388608
    says_fresh h =
        subst
        (λ x. x < 8388608)
        (sym held.is)
        (word_low held.slot parent counted near_slot near_parent
        (ap (λ t. cond t (length (arcs_of ps (node_at ps v))) 0) (le-ltb v lo h)))

    -- the way back to the root: what a node is without its last change has a smaller number
    module _ (low : 1 ≤ v) where
      pub says_below : parent_in word < v
      says_below = subst (λ p. p < v) (sym says_parent) (below v low inside)
        where
          below : (v : ℕ) → 1 ≤ v → v < length (rooted ps) → place (front (front (node_at ps v))) (rooted ps) < v
          below zero l h = absurd (omega arith)
          below (suc v) l h = parent_below ps v h

      pub says_node : changing (node_at ps (parent_in word)) (transfer_at w (slot_in word)) ≡ node_at ps v
      says_node = (λ i. changing (node_at ps (says_parent i)) (says_slot i)) ∙ node v low inside
        where
          node : (v : ℕ) → 1 ≤ v → v < length (rooted ps)
              → changing (node_at ps (place (front (front (node_at ps v))) (rooted ps))) (last_of source (node_at ps v))
              ≡ node_at ps v
          node zero l h = absurd (omega arith)
          node (suc v) l h = parent_and_change ps v h source
