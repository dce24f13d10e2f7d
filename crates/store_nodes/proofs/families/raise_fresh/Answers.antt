use Rattle.store_nodes.specs.Joining.{joining_none, joining_more, joining_all, joining_unseen}
use borrow.Author.Rules.{rules}
use Rattle.store_nodes.proofs.families.raise_fresh.Goals as goal

pub loop-k-init : goal.loop-k-init
loop-k-init c = (search rules, search rules, search joining_none)

pub loop-k-preserved : goal.loop-k-preserved
loop-k-preserved c = (search rules, search rules, search joining_more)

pub returns : goal.returns
returns c = (search joining_all, search joining_unseen, search rules)
