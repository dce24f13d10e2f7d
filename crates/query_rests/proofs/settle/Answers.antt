use borrow.Author.Rules.{rules}
use Rattle.query_rests.proofs.RestLaws.{settle_begins, low_begins, settle_more, low_more, settle_done, settle_spans}
use Rattle.query_rests.proofs.settle.Goals as goal

pub loop-m-init : goal.loop-m-init
loop-m-init c = (search rules, search rules, search settle_begins, search low_begins)

pub loop-m-preserved : goal.loop-m-preserved
loop-m-preserved c = (search rules, search rules, search settle_more, search low_more)

pub returns-clause-z_after : goal.returns-clause-z_after
returns-clause-z_after c = (search settle_done, search settle_spans)
