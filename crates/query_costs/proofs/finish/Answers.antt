-- The rides are noted as they are, without a change behind them.
use borrow.Author.Rules.{rules}
use Rattle.query_costs.specs.Falling.{falls_within}
use Rattle.query_costs.proofs.finish.Goals as goal

pub clear-requires : goal.clear-requires
clear-requires c = (search rules, search falls_within)
