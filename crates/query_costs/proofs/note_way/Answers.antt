-- Where there is no way of changing nothing is noted.
use borrow.Author.Rules.{rules}
use Rattle.query_costs.proofs.RideLaws.{span_first}
use Rattle.query_costs.proofs.StepLaws.{way_shut, way_taken, way_short, way_cheap}
use Rattle.query_costs.proofs.note_way.Goals as goal

pub returns-then-not-way-clause-best_after : goal.returns-then-not-way-clause-best_after
returns-then-not-way-clause-best_after c = search way_shut

pub returns-then-not-way-clause-within : goal.returns-then-not-way-clause-within
returns-then-not-way-clause-within c = (search span_first, search rules)

pub note_rides-requires : goal.note_rides-requires
note_rides-requires c = (search rules, search rules, search rules, search way_short, search way_cheap)

pub returns-clause-best_after : goal.returns-clause-best_after
returns-clause-best_after c = search way_taken
