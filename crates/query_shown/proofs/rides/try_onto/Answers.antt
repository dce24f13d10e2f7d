-- A price that there is not, or that cannot be paid, leaves the best as it is.
use borrow.Author.Rules.{rules}
use Rattle.query_shown.proofs.ChooseLaws.{onto_shut, onto_poor, onto_paid}
use Rattle.query_shown.proofs.rides.try_onto.Goals as goal

pub returns-then-not-less : goal.returns-then-not-less
returns-then-not-less c = (search onto_shut, search rules)

pub returns-then-less : goal.returns-then-less
returns-then-less c = (search onto_poor, search rules)

pub returns : goal.returns
returns c = (search onto_paid, search rules)
