-- What is allowed, and then who can still end well.
use borrow.Author.Rules.{rules}
use Rattle.store_minutes.specs.Allowed.{judged_at}
use Rattle.store_minutes.proofs.judge.Goals as goal

pub returns : goal.returns
returns c = (search judged_at, search rules, search rules, search rules)
