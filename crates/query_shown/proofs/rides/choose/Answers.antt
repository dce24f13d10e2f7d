use borrow.Author.Rules.{rules}
use Rattle.query_shown.proofs.ChooseLaws.{calls_begin, calls_more, calls_done}
use Rattle.query_shown.proofs.rides.choose.Goals as goal

pub loop-k-init : goal.loop-k-init
loop-k-init c = (search rules, search rules, search rules, search rules, search rules, search calls_begin)

pub loop-k-preserved : goal.loop-k-preserved
loop-k-preserved c = (search rules, search rules, search rules, search rules, search rules, search calls_more)

pub returns : goal.returns
returns c = (search calls_done, search rules)
