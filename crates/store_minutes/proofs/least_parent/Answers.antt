use Rattle.store_minutes.specs.Looking.{parents_none, parents_more, parents_all}
use borrow.Author.Rules.{rules}
use Rattle.store_minutes.proofs.least_parent.Goals as goal

pub loop-v-init : goal.loop-v-init
loop-v-init c = (search rules, search rules, search parents_none)

pub loop-v-preserved : goal.loop-v-preserved
loop-v-preserved c = (search rules, search rules, search parents_more)

pub returns : goal.returns
returns c = search parents_all
