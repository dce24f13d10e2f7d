-- By the cases of the change.
use Rattle.query_rides.proofs.WaysLaws.{cost_afoot}
use Rattle.query_rides.proofs.cost_of.Goals as goal

pub returns-in-Walk : goal.returns-in-Walk
returns-in-Walk c = search cost_afoot
