-- The slots are listed and the root is planted, so the tree can grow.
use borrow.Author.Rules.{rules}
use Rattle.store_minutes.specs.Prepared.{long_enough_lem, accepted}
use Rattle.store_growth.specs.Chunks.{planted, slots_lent}
use Rattle.store_growth.proofs.plant_tree.Goals as goal

pub list_slots-many-requires : goal.list_slots-many-requires
list_slots-many-requires c = (search long_enough_lem, search accepted, search rules)

pub grow-requires : goal.grow-requires
grow-requires c = (
  search rules,
  search rules,
  search rules,
  search rules,
  search rules,
  search planted,
  search slots_lent,
)
