-- A trip with a yes has a first stop, and its departure is the trip's first.
use Rattle.lines_trips.proofs.TripLaws.{first_departs}
use Rattle.lines_trips.proofs.departure.Goals as goal

pub returns : goal.returns
returns c = search first_departs
