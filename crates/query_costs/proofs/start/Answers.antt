-- No one is ready before the minute of the query, and from it on one is who has paid nothing.
use borrow.Author.Rules.{rules}
use Rattle.query_costs.specs.Falling.{start_holds, start_falls}
use Rattle.query_costs.proofs.start.Goals as goal

pub returns-clause-p_after : goal.returns-clause-p_after
returns-clause-p_after c = search start_holds

pub returns-clause-falls : goal.returns-clause-falls
returns-clause-falls c = (search start_falls, search rules)
