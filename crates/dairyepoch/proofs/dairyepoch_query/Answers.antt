-- The reply is packed, and the answer is as the call left it.
use Rattle.replies_packed.specs.Told.{count_seen_packed}
use Rattle.dairyepoch.proofs.dairyepoch_query.Goals as goal

pub returns-clause-reply : goal.returns-clause-reply
returns-clause-reply c = search count_seen_packed
