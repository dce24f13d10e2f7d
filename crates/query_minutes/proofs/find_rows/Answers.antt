use Rattle.query_minutes.proofs.EndLaws.{end_here, end_late}
use Rattle.query_minutes.proofs.LeadLaws.{count_skip, count_row, count_last, count_done}
use borrow.Author.Rules.{rules}
use Rattle.query_minutes.proofs.find_rows.Goals as goal

pub loop-m-preserved-then-not-less : goal.loop-m-preserved-then-not-less
loop-m-preserved-then-not-less c = (search rules, search count_skip)

pub returns-then-at_least : goal.returns-then-at_least
returns-then-at_least c = (search count_last, search rules, search end_here)

pub loop-m-preserved : goal.loop-m-preserved
loop-m-preserved c = (search rules, search count_row)

pub returns : goal.returns
returns c = (search count_done, search rules, search (rules, end_late))
