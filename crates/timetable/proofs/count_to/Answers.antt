use borrow.Author.Rules.{rules}
use Rattle.timetable.proofs.CountLaws.{count_more, count_done}
use Rattle.timetable.proofs.count_to.Goals as goal

pub loop-k-preserved : goal.loop-k-preserved
loop-k-preserved c = (search rules, search count_more)

pub returns : goal.returns
returns c = (search count_done, search rules)
