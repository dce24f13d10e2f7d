use borrow.Author.Rules.{rules}
use Rattle.store_growth.specs.Chunks.{underway_none, underway_more, takes_next, all_refused, all_taken}
use Rattle.store_growth.specs.Chunks.{chunk_arcs, chunk_kids, chunk_few}
use Rattle.store_growth.proofs.tree.take_chunk.Goals as goal

pub loop-v-init : goal.loop-v-init
loop-v-init c = (
  search chunk_few,
  search chunk_arcs,
  search chunk_kids,
  search rules,
  search rules,
  search underway_none,
)

pub take_node-taken-requires : goal.take_node-taken-requires
take_node-taken-requires c = search takes_next

pub returns-then-not-taken : goal.returns-then-not-taken
returns-then-not-taken c = search all_refused

pub loop-v-preserved : goal.loop-v-preserved
loop-v-preserved c = (
  search rules,
  search rules,
  search rules,
  search rules,
  search rules,
  search underway_more,
)

pub returns : goal.returns
returns c = search (all_taken, c.loop-v.auto.v-end)
