-- The labels of the source are those of the root, and are noted as such.
use borrow.Author.Rules.{rules}
use Rattle.store_nodes.specs.Hand.{station_place, root_labels, root_at_hand, noted_rises}
use Rattle.store_nodes.proofs.nodes.label_start.Goals as goal

pub note-requires : goal.note-requires
note-requires c = (search station_place, search rules, search rules)

pub returns : goal.returns
returns c = (
  search root_labels,
  search root_at_hand,
  search noted_rises,
  search rules,
  search rules,
  search rules,
)
