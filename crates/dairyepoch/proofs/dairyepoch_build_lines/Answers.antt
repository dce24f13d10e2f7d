-- The reply is packed, and the line tables are those that the call left.
use Rattle.replies_packed.specs.Told.{count_seen_packed}
use Rattle.dairyepoch.proofs.dairyepoch_build_lines.Goals as goal

pub returns-clause-reply : goal.returns-clause-reply
returns-clause-reply c = search count_seen_packed
