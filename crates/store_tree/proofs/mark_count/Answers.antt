use Rattle.store_tree.proofs.MarkLaws.{count_first, count_more, count_done}
use borrow.Author.Rules.{rules}
use Rattle.store_tree.proofs.mark_count.Goals as goal

pub loop-flag-init : goal.loop-flag-init
loop-flag-init c = (search rules, search count_first)

pub loop-flag-preserved : goal.loop-flag-preserved
loop-flag-preserved c = (search rules, search count_more)

pub returns : goal.returns
returns c = (search count_done, search rules)
