-- The ride is that of the boarding, place and trip at which the cursor stands.
use Rattle.query_rides.proofs.CursorLaws.{cursor_told}
use Rattle.query_rides.proofs.tell.Goals as goal

pub returns : goal.returns
returns c = search cursor_told
