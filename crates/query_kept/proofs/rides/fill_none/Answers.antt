use Rattle.query_kept.proofs.KeepLaws.{unkept_first, unkept_more, unkept_done}
use borrow.Author.Rules.{rules}
use Rattle.query_kept.proofs.rides.fill_none.Goals as goal

pub loop-a-init : goal.loop-a-init
loop-a-init c = (search rules, search unkept_first)

pub loop-a-preserved : goal.loop-a-preserved
loop-a-preserved c = (search rules, search unkept_more)

pub returns-clause-unkept : goal.returns-clause-unkept
returns-clause-unkept c = search unkept_done
