-- Whichever array holds the present penalties, the other holds those behind the step.
use borrow.Author.Rules.{rules}
use Rattle.query_costs.proofs.StepLaws.{fitting_first, fitting_second, turned_first, turned_second}
use Rattle.query_costs.proofs.StepLaws.{falls_first, falls_second, spare_is_first, spare_is_second}
use Rattle.query_costs.proofs.StepLaws.{value_first, value_second, next_first, next_second}
use Rattle.query_costs.proofs.StepLaws.{left_first, left_second}
use Rattle.query_costs.proofs.step_turned.Goals as goal

pub step-requires-clause-falls : goal.step-requires-clause-falls
step-requires-clause-falls c = (
  search falls_second,
  search spare_is_first,
  search rules,
  search rules,
  search
      fitting_second,
)

pub returns-then-turned-clause-q_after : goal.returns-then-turned-clause-q_after
returns-then-turned-clause-q_after c = search turned_second

pub returns-then-turned-clause-q_after_2 : goal.returns-then-turned-clause-q_after_2
returns-then-turned-clause-q_after_2 c = (search left_second, search rules, search rules)

pub returns-then-turned-clause-falls_2 : goal.returns-then-turned-clause-falls_2
returns-then-turned-clause-falls_2 c = (search next_second, search value_second, search rules)

pub step-requires-2-clause-falls : goal.step-requires-2-clause-falls
step-requires-2-clause-falls c = (
  search falls_first,
  search spare_is_second,
  search rules,
  search rules,
  search
      fitting_first,
)

pub returns-clause-q_after : goal.returns-clause-q_after
returns-clause-q_after c = search turned_first

pub returns-clause-q_after_2 : goal.returns-clause-q_after_2
returns-clause-q_after_2 c = (search left_first, search rules, search rules)

pub returns-clause-falls_2 : goal.returns-clause-falls_2
returns-clause-falls_2 c = (search next_first, search value_first, search rules)
