-- The reply is packed, and both slices are as the call left them.
use Rattle.replies_packed.specs.Told.{count_seen_packed}
use Rattle.dairyepoch.proofs.dairyepoch_cancel_trip.Goals as goal

pub returns-clause-reply : goal.returns-clause-reply
returns-clause-reply c = search count_seen_packed
