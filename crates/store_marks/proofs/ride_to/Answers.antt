-- Who cannot board arrives nowhere; who can, rides on.
use borrow.Author.Rules.{rules}
use Rattle.query_minutes.specs.Compared.{at_least_yes, at_least_no}
use Rattle.store_marks.proofs.RideLaws.{not_boarded, boarded}
use Rattle.store_marks.proofs.ride_to.Goals as goal

pub returns-then-at_least-clause-x_after : goal.returns-then-at_least-clause-x_after
returns-then-at_least-clause-x_after c = search (not_boarded, at_least_yes)

pub ride_on-requires-clause-way : goal.ride_on-requires-clause-way
ride_on-requires-clause-way c = (search rules, search rules, search rules, search at_least_no)

pub returns-clause-x_after : goal.returns-clause-x_after
returns-clause-x_after c = search (boarded, at_least_no)
