-- A ride behind which nothing is left, or that costs too much, leaves the best as it is; else the order decides.
use Rattle.query_shown.proofs.ChooseLaws.{try_none, try_short, try_dear, try_takes, try_keeps}
use borrow.Author.Rules.{rules}
use Rattle.query_shown.proofs.rides.try_ride.Goals as goal

pub returns-then-not-less : goal.returns-then-not-less
returns-then-not-less c = (search try_none, search rules)

pub returns-then-less : goal.returns-then-less
returns-then-less c = (search try_short, search rules)

pub returns-then-less-2 : goal.returns-then-less-2
returns-then-less-2 c = (search try_dear, search rules)

pub returns-then-goes_before : goal.returns-then-goes_before
returns-then-goes_before c = (search try_takes, search rules)

pub returns : goal.returns
returns c = (search try_keeps, search rules)
