use borrow.Author.Rules.{rules}
use Rattle.store_minutes.specs.Looking.{looked_none}
use Rattle.store_growth.specs.Chunks.{few_nodes, less_left, chunk_grown, whole_refused, whole_taken}
use Rattle.store_growth.proofs.tree.grow.Goals as goal

pub loop-lo-init : goal.loop-lo-init
loop-lo-init c = (
  search rules,
  search rules,
  search rules,
  search rules,
  search rules,
  search rules,
  search rules,
  search rules,
  search rules,
  search looked_none,
  search rules,
)

pub chunk_end-hi-requires : goal.chunk_end-hi-requires
chunk_end-hi-requires c = (search rules, search few_nodes)

pub returns-then-not-taken : goal.returns-then-not-taken
returns-then-not-taken c = search whole_refused

pub loop-lo-smaller : goal.loop-lo-smaller
loop-lo-smaller c = search less_left

pub loop-lo-preserved : goal.loop-lo-preserved
loop-lo-preserved c = (
  search rules,
  search rules,
  search rules,
  search rules,
  search rules,
  search rules,
  search rules,
  search chunk_grown,
  search rules,
  search rules,
  search rules,
)

pub returns : goal.returns
returns c = search whole_taken
