-- Whichever array holds the present penalties is the one from which the last ride is noted.
use borrow.Author.Rules.{rules}
use Rattle.query_costs.proofs.StepLaws.{fitting_first, fitting_second, end_first, end_second}
use Rattle.query_costs.proofs.StepLaws.{falls_first, falls_second, spare_is_first, spare_is_second}
use Rattle.query_costs.proofs.finish_turned.Goals as goal

pub finish-requires : goal.finish-requires
finish-requires c = (search falls_second, search rules, search rules, search fitting_second)

pub returns-then-turned-clause-best_after : goal.returns-then-turned-clause-best_after
returns-then-turned-clause-best_after c = search end_second

pub returns-then-turned-clause-p_after : goal.returns-then-turned-clause-p_after
returns-then-turned-clause-p_after c = (search spare_is_first, search rules, search rules, search rules, search rules)

pub finish-requires-2 : goal.finish-requires-2
finish-requires-2 c = (search falls_first, search rules, search rules, search fitting_first)

pub returns-clause-best_after : goal.returns-clause-best_after
returns-clause-best_after c = search end_first

pub returns-clause-p_after : goal.returns-clause-p_after
returns-clause-p_after c = (search rules, search spare_is_second, search rules, search rules, search rules)
