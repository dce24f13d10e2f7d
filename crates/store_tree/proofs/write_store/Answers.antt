-- The two counts, the nodes and the arcs, one behind the other.
use borrow.Author.Rules.{rules}
use Rattle.words.specs.Below.{below_none, below_more}
use Rattle.store_tree.proofs.StoreLaws.{whole_spelled, whole_listed, whole_total, whole_stations, arcs_room}
use Rattle.store_tree.proofs.StoreLaws.{store_written}
use Rattle.store_tree.proofs.write_store.Goals as goal

pub narrow-requires : goal.narrow-requires
narrow-requires c = (
  search rules,
  below_more _ _ _ (search rules) (below_more _ _ _ (search rules) (below_none _)),
)

pub write_nodes-requires : goal.write_nodes-requires
write_nodes-requires c = (
  search rules,
  search whole_spelled,
  λ v h. search whole_listed,
  search rules,
  search rules,
  search rules,
)

pub write_arcs-requires : goal.write_arcs-requires
write_arcs-requires c = (
  search whole_stations,
  search rules,
  search rules,
  search rules,
  search whole_total,
  search arcs_room,
)

pub returns-clause-by_index : goal.returns-clause-by_index
returns-clause-by_index c = λ ps source made g. search store_written
