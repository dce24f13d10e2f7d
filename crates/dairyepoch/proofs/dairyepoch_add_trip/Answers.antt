-- The reply is packed, and both slices are as the call left them.
use Rattle.replies_packed.specs.Told.{lines_seen_packed}
use Rattle.dairyepoch.proofs.dairyepoch_add_trip.Goals as goal

pub returns-clause-reply : goal.returns-clause-reply
returns-clause-reply c = search lines_seen_packed
