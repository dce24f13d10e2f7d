-- The flags of the chunk are those of its arcs and kids, so its nodes can be taken.
use borrow.Author.Rules.{rules}
use Rattle.store_nodes.specs.Chunk.{down_fresh}
use Rattle.store_growth.specs.Chunks.{standing_to, some_chunk, chunk_reached}
use Rattle.store_growth.proofs.tree.grow_chunk.Goals as goal

pub mark_chunk-requires : goal.mark_chunk-requires
mark_chunk-requires c = (
  search rules,
  search rules,
  search rules,
  search rules,
  search standing_to,
  search rules,
  search rules,
  search rules,
  search rules,
  search rules,
  search rules,
  search rules,
  search rules,
  search rules,
  search down_fresh,
  search down_fresh,
)

pub take_chunk-requires : goal.take_chunk-requires
take_chunk-requires c = search some_chunk

pub returns : goal.returns
returns c = (
  chunk_reached _ _ _ _ c.requires.0 _ _ _ _ _ _ _ c.requires.5 c.requires.6 c.requires.7 c.requires.8 _ c.requires.9 _
      _ c.mark_chunk.ensures.0 c.mark_chunk.ensures.6
      c.mark_chunk.ensures.7 _ _ _ c.take_chunk.ensures,
  c.mark_chunk.ensures.1,
  c.mark_chunk.ensures.2,
)
