use Rattle.store_nodes.specs.Hand.{hand_none, idle_none, idle_then, idle_all}
use Rattle.store_nodes.specs.Chunk.{raised_none, on_all, raised_all}
use borrow.Author.Rules.{rules}
use Rattle.store_nodes.proofs.families.mark_nodes.Goals as goal

pub loop-node-init : goal.loop-node-init
loop-node-init c = (
  search rules,
  search rules,
  search rules,
  search rules,
  search rules,
  search rules,
  search hand_none,
  search idle_none,
  search raised_none,
  search raised_none,
)

pub loop-node-preserved : goal.loop-node-preserved
loop-node-preserved c = (
  search rules,
  search rules,
  search rules,
  search rules,
  search rules,
  search rules,
  search rules,
  search idle_then,
  search on_all,
  search on_all,
)

pub returns : goal.returns
returns c = (search raised_all, search raised_all, search idle_all, search rules, search rules, search rules)
