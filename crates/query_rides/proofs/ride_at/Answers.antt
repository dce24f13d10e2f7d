-- The words read are those of the ride.
use Rattle.query_rides.proofs.CursorLaws.{told}
use Rattle.query_rides.proofs.ride_at.Goals as goal

pub returns : goal.returns
returns c = search told
