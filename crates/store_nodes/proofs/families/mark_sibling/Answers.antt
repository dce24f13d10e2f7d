-- The change of the node is behind those of its parent.
use Rattle.store_nodes.specs.Hope.{kids_inside, sibling_inside, sibling_number, sibling_onward}
use Rattle.store_nodes.specs.Hope.{sibling_few, told_one, stays_one}
use borrow.Author.Rules.{rules}
use Rattle.store_nodes.proofs.families.mark_sibling.Goals as goal

pub mark_hoped-requires : goal.mark_hoped-requires
mark_hoped-requires c = (
  search rules,
  search rules,
  search rules,
  search rules,
  search rules,
  search sibling_inside,
  search sibling_number,
  search sibling_onward,
  search sibling_few,
  search rules,
  search rules,
  search rules,
  search rules,
  search rules,
  search rules,
  search rules,
  search rules,
  search rules,
)

pub is_kid-requires : goal.is_kid-requires
is_kid-requires c = search kids_inside

pub returns : goal.returns
returns c = (
  search told_one,
  search told_one,
  search stays_one,
  search rules,
  search rules,
  search rules,
  search rules,
  search rules,
)
