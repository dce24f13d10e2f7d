use Rattle.store_nodes.specs.Hope.{stays_none, stays_then, told_none, told_then, kin_under}
use Rattle.store_nodes.specs.Hope.{kin_from, sibling_fits}
use borrow.Author.Rules.{rules}
use Rattle.store_nodes.proofs.families.mark_kids.Goals as goal

pub loop-parent-init : goal.loop-parent-init
loop-parent-init c = (
  search rules,
  search rules,
  search rules,
  search rules,
  search rules,
  search rules,
  search rules,
  search rules,
  search rules,
  search stays_none,
  search told_none,
  search told_none,
)

pub overflow_add-v : goal.overflow_add-v
overflow_add-v c = record { fits = search sibling_fits }

pub returns-then-not-more : goal.returns-then-not-more
returns-then-not-more c = (
  search told_then,
  search told_then,
  search stays_then,
  search rules,
  search rules,
  search rules,
  search rules,
  search rules,
  search rules,
)

pub loop-parent-preserved : goal.loop-parent-preserved
loop-parent-preserved c = (
  search rules,
  search rules,
  search rules,
  search kin_under,
  search rules,
  search rules,
  search rules,
  search rules,
  search kin_from,
  search stays_then,
  search told_then,
  search told_then,
)
