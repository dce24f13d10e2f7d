use borrow.Author.Rules.{rules}
use Rattle.lines_lookup.proofs.LookupLaws.{departs}
use Rattle.lines_lookup.proofs.depart_at.Goals as goal

pub returns : goal.returns
returns c = (search departs, search rules)
