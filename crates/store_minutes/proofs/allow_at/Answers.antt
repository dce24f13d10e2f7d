-- Least penalties, and what they allow.
use borrow.Author.Rules.{rules}
use Rattle.store_minutes.specs.Prepared.{counted_order, arranged}
use Rattle.store_minutes.specs.Allowed.{allowed_at}
use Rattle.store_minutes.proofs.allow_at.Goals as goal

pub least_penalties-requires-clause-n_value : goal.least_penalties-requires-clause-n_value
least_penalties-requires-clause-n_value c = (search counted_order, search arranged)

pub returns : goal.returns
returns c = (search allowed_at, search rules, search rules)
