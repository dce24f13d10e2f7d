-- Closed stops first; then the frontiers of what is left are those where one may alight.
use borrow.Author.Rules.{rules}
use Rattle.store_frontier.specs.Arrivals.{first_listed, first_tells}
use Rattle.store_frontier.specs.Allowing.{closed_allows}
use Rattle.store_frontier.proofs.allow.Goals as goal

pub close-requires : goal.close-requires
close-requires c = (search rules, search rules, search first_listed, search first_tells, search rules)

pub returns-clause-allows : goal.returns-clause-allows
returns-clause-allows c = search closed_allows
