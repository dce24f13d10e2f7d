use borrow.Author.Rules.{rules}
use Rattle.lines_lookup.proofs.LookupLaws.{arrives}
use Rattle.lines_lookup.proofs.arrive_at.Goals as goal

pub returns : goal.returns
returns c = (search arrives, search rules)
