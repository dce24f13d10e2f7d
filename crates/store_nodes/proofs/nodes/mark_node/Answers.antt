-- The marks of the labels are those of the node.
use Rattle.store_nodes.specs.Standing.{arcs_at, kids_at}
use borrow.Author.Rules.{rules}
use Rattle.store_nodes.proofs.nodes.mark_node.Goals as goal

pub returns : goal.returns
returns c = (
  search arcs_at,
  search kids_at,
  search rules,
  search rules,
  search rules,
  search rules,
  search rules,
  search rules,
  search rules,
  search rules,
)
