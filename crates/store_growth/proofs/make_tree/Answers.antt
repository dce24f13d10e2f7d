-- The arrays are as long as the calls ask for.
use borrow.Author.Rules.{rules}
use Rattle.store_minutes.specs.Prepared.{routes}
use Rattle.store_growth.proofs.make_tree.Goals as goal

pub grow_tree-requires : goal.grow_tree-requires
grow_tree-requires c = (
  search routes,
  search rules,
  search rules,
  search rules,
  search rules,
  search rules,
  search rules,
)
