-- Labels at hand, those of the root, or those of the parent first and then one change more.
use Prim.Native.Nat.{◌<◌}
use native.Mathlib.Omega.{arith}
use borrow.Author.Rules.{rules}
use Rattle.store_nodes.specs.Standing.{node_inside, node_few, node_slot, node_station}
use Rattle.store_nodes.specs.Hand.{hand_there, node_place, parent_under, parent_stands}
use Rattle.store_nodes.specs.Hand.{node_onward_from, node_labelled, node_at_hand}
use Rattle.store_nodes.proofs.nodes.+label_node.Goals as goal

pub boards_at-c-requires : goal.boards_at-c-requires
boards_at-c-requires t c = (search rules, search rules, search node_inside, search node_slot)

pub is_at_hand-requires : goal.is_at_hand-requires
is_at_hand-requires t c = (search node_place, search node_few, search rules)

pub returns-then-is_at_hand : goal.returns-then-is_at_hand
returns-then-is_at_hand t c = (
  search (hand_there, node_place),
  search rules,
  search rules,
  search node_station,
  search rules,
  search rules,
)

pub label_node-b-requires : goal.label_node-b-requires
label_node-b-requires t c =
    let low : c.parent_of-p.result < c.args.node = search parent_under in (
      omega arith,
      (
        search rules,
        search rules,
        search rules,
        search rules,
        search rules,
        search parent_stands,
        search rules,
        search rules,
        search rules,
      ),
    )

pub label_kid-requires : goal.label_kid-requires
label_kid-requires t c =
    let entry = c.requires in (
      search rules,
      search rules,
      search rules,
      search rules,
      search rules,
      search node_inside,
      search node_few,
      node_onward_from _ entry.1 _ _ _ entry.5 c.if-node-eq0.false _ c.parent_of-p.ensures _ _ _
          c.label_node-b.ensures.0,
      search rules,
      search rules,
    )

pub returns : goal.returns
returns t c =
    let entry = c.requires in (
      node_labelled _ entry.1 _ _ _ entry.5 c.if-node-eq0.false _ c.parent_of-p.ensures _ _ _
          c.label_node-b.ensures.0 _ _ _ _ c.label_kid.ensures.0,
      node_at_hand _ entry.1 _ _ _ entry.5 c.if-node-eq0.false _ c.parent_of-p.ensures _ _ _
          c.label_node-b.ensures.0 _ _ _ _ c.label_kid.ensures.0 c.label_node-b.ensures.1,
      omega (arith, c.label_node-b.ensures.2, c.label_kid.ensures.0.noted.rises),
      search rules,
      search rules,
      search rules,
    )
