-- The flags of the node are a part of those of the chunk.
use borrow.Author.Rules.{rules}
use Rattle.store_nodes.specs.Chunk.{part_64, part_320, marked_at_64, marked_at_320}
use Rattle.store_nodes.specs.Chunk.{marked_long_64, marked_long_320}
use Rattle.store_nodes.proofs.nodes.mark_at.Goals as goal

pub mark_node-requires : goal.mark_node-requires
mark_node-requires c = (
  search rules,
  search rules,
  search rules,
  search rules,
  search rules,
  search rules,
  search rules,
  search rules,
  search rules,
  search rules,
  search rules,
  search rules,
  search part_64,
  search part_320,
)

pub returns : goal.returns
returns c = (
  search marked_at_64,
  search marked_at_320,
  search rules,
  search rules,
  search rules,
  search rules,
  search marked_long_64,
  search marked_long_320,
)
