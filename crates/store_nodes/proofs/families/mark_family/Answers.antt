-- The root by itself, or the siblings of the node.
use Rattle.store_nodes.specs.Standing.{standing}
use Rattle.store_nodes.specs.Chunk.{on_alone}
use Rattle.store_nodes.specs.Hand.{hand_on, idle_noted}
use borrow.Author.Rules.{rules}
use Rattle.store_nodes.proofs.families.mark_family.Goals as goal

pub mark_at-requires : goal.mark_at-requires
mark_at-requires c = (
  search rules,
  search rules,
  search rules,
  search rules,
  search rules,
  search standing,
  search rules,
  search rules,
  search rules,
  search rules,
  search rules,
  search rules,
  search rules,
  search rules,
  search rules,
  search rules,
)

pub returns-then-node-eq0 : goal.returns-then-node-eq0
returns-then-node-eq0 c = (
  search on_alone,
  search on_alone,
  search hand_on,
  search idle_noted,
  search rules,
  search rules,
  search rules,
  search rules,
  search rules,
  search rules,
)
