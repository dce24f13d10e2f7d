use borrow.Author.Rules.{rules}
use Rattle.words.specs.Below.{below_none, below_more}
use Rattle.store_tree.proofs.LayLaws.{nodes_first, node_room, node_more, nodes_done, node_small, alighted_small}
use Rattle.store_tree.proofs.LayLaws.{boarded_small}
use Rattle.store_tree.proofs.write_nodes.Goals as goal

pub loop-v-init : goal.loop-v-init
loop-v-init c = (search rules, search nodes_first)

pub transfer_at-change-requires : goal.transfer_at-change-requires
transfer_at-change-requires c = (search rules, search rules, search node_small)

pub narrow-requires : goal.narrow-requires
narrow-requires c = (
  search node_room,
  below_more _ _ _ (search alighted_small)
      (below_more _ _ _ (search boarded_small) (below_more _ _ _ (search rules) (below_none _))),
)

pub loop-v-preserved : goal.loop-v-preserved
loop-v-preserved c = (search rules, search node_more)

pub returns-clause-store_after : goal.returns-clause-store_after
returns-clause-store_after c = search nodes_done
