-- Who cannot board arrives nowhere; who can, rides on.
use borrow.Author.Rules.{rules}
use Rattle.query_minutes.specs.Compared.{at_least_yes, at_least_no}
use Rattle.store_marks.proofs.RideLaws.{not_boarded, boarded}
use Rattle.store_marks.proofs.mark_ride.Goals as goal

pub returns-then-at_least-clause-arcs_after : goal.returns-then-at_least-clause-arcs_after
returns-then-at_least-clause-arcs_after c = search (not_boarded, at_least_yes)

pub returns-then-at_least-clause-kids_after : goal.returns-then-at_least-clause-kids_after
returns-then-at_least-clause-kids_after c = search (not_boarded, at_least_yes)

pub mark_on-requires-clause-goes : goal.mark_on-requires-clause-goes
mark_on-requires-clause-goes c = (search rules, search rules, search at_least_no)

pub returns-clause-arcs_after : goal.returns-clause-arcs_after
returns-clause-arcs_after c = search (boarded, at_least_no)

pub returns-clause-kids_after : goal.returns-clause-kids_after
returns-clause-kids_after c = search (boarded, at_least_no)
