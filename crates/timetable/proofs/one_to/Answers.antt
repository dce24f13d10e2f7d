-- Two ways out.
use borrow.Author.Rules.{rules}
use Rattle.timetable.proofs.CountLaws.{one_up_to, none_up_to}
use Rattle.timetable.proofs.one_to.Goals as goal

pub returns-then-from-y : goal.returns-then-from-y
returns-then-from-y c = (search one_up_to, search rules)

pub returns : goal.returns
returns c = (search none_up_to, search rules)
