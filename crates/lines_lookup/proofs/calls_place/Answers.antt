use borrow.Author.Rules.{rules}
use Rattle.lines_lookup.proofs.LookupLaws.{begins}
use Rattle.lines_lookup.proofs.calls_place.Goals as goal

pub returns : goal.returns
returns c = (search begins, search rules)
