use borrow.Author.Rules.{rules}
use Rattle.lists.specs.Places.{past}
use Rattle.lines_lookup.proofs.peek.Goals as goal

pub returns : goal.returns
returns c = (search past, search rules)
