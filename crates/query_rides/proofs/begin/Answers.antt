-- The calls of both stations from the first on.
use Rattle.query_rides.proofs.CursorLaws.{near_first}
use borrow.Author.Rules.{rules}
use Rattle.query_rides.proofs.begin.Goals as goal

pub returns : goal.returns
returns c = (search near_first, search rules)
