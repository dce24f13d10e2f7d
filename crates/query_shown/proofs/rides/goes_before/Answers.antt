-- The later departure decides where it counts, and then the numbers.
use Rattle.query_minutes.specs.Compared.{less_yes, less_no}
use Rattle.query_shown.proofs.KeyLaws.{departs_first, departs_later, numbers_decide}
use Rattle.query_shown.proofs.rides.goes_before.Goals as goal

pub returns-then-shorter : goal.returns-then-shorter
returns-then-shorter c = search (departs_first, less_yes)

pub returns-then-shorter-2 : goal.returns-then-shorter-2
returns-then-shorter-2 c = search (departs_later, less_yes)

pub returns : goal.returns
returns c = search (numbers_decide, less_no)
