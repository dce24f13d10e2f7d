-- The reply of the read is packed, and the words are those that it left.
use Rattle.replies_packed.specs.Told.{lines_seen_packed}
use Rattle.dairyepoch.proofs.dairyepoch_read.Goals as goal

pub returns-clause-reply : goal.returns-clause-reply
returns-clause-reply c = search lines_seen_packed
