-- The rides are noted in blank words, if one can change behind them, and then lowered to the least so far. What a
-- change takes and costs is bounded by question 9.
use borrow.Author.Rules.{rules}
use Rattle.query_costs.specs.Spans.{within_from}
use Rattle.query_costs.specs.Falling.{falls_within, falls_from, first_held}
use Rattle.query_costs.specs.Onward.{way_priced}
use Rattle.query_costs.proofs.LowestLaws.{none_before}
use Rattle.query_costs.proofs.StepLaws.{step_is}
use Rattle.query_costs.proofs.step.Goals as goal

pub note_way-noted-requires : goal.note_way-noted-requires
note_way-noted-requires c = (search rules, search rules, search rules, search way_priced)

pub clear-requires : goal.clear-requires
clear-requires c = (search rules, search falls_within)

pub lowest_so_far-requires : goal.lowest_so_far-requires
lowest_so_far-requires c = (search rules, search within_from)

pub first_value-first-requires : goal.first_value-first-requires
first_value-first-requires c = (search rules, search rules, search none_before)

pub returns-clause-q_after : goal.returns-clause-q_after
returns-clause-q_after c = step_is _ _ _ _ _ _ c.way_between-way.ensures _ _ _ c.lowest_so_far.ensures.p_unchanged.0
    c.note_way-noted.ensures.best_after c.requires.falls.1

pub returns-clause-p_after : goal.returns-clause-p_after
returns-clause-p_after c = (c.clear.ensures.p_after, search rules, search rules)

pub returns-clause-falls_2 : goal.returns-clause-falls_2
returns-clause-falls_2 c = (search falls_from, search first_held, search rules)
