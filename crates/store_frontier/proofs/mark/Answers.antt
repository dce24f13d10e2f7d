-- A word on the frontier becomes one more, any other 0.
use Rattle.query_minutes.specs.Compared.{at_least_yes, at_least_no, other_yes, other_no}
use Rattle.store_frontier.specs.Front.{mark_high, mark_other, mark_fits, mark_low}
use Rattle.store_frontier.proofs.mark.Goals as goal

pub returns-then-at_least : goal.returns-then-at_least
returns-then-at_least c = search (mark_high, at_least_yes)

pub returns-then-not-same : goal.returns-then-not-same
returns-then-not-same c = search (mark_other, at_least_no, other_yes)

pub sum-requires : goal.sum-requires
sum-requires c = search (mark_fits, at_least_no)

pub returns : goal.returns
returns c = search (mark_low, at_least_no, other_no)
