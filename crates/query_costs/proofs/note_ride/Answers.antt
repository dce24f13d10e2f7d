-- What was paid before, the ride and the change, one after the other.
use borrow.Author.Rules.{rules}
use Rattle.query_costs.proofs.RideLaws.{fits_depart, fits_some, ride_noted, ride_widened}
use Rattle.query_costs.proofs.note_ride.Goals as goal

pub paid_by-stood-requires : goal.paid_by-stood-requires
paid_by-stood-requires c = (search rules, search fits_depart, search fits_some)

pub returns-clause-best_after : goal.returns-clause-best_after
returns-clause-best_after c = search ride_noted

pub returns-clause-value : goal.returns-clause-value
returns-clause-value c = search ride_widened
