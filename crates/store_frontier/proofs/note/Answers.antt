-- The highest is the larger of what stood there and the bound of one who boards.
use borrow.Author.Rules.{rules}
use Rattle.store_frontier.proofs.PassLaws.{noted}
use Rattle.store_frontier.proofs.note.Goals as goal

pub returns : goal.returns
returns c = (search rules, search noted, search noted, search rules, search rules, search rules)
