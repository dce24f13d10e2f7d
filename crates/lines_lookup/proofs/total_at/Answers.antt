-- The two words after that of station and mark.
use Rattle.lines_lookup.proofs.LookupLaws.{total_is}
use Rattle.lines_lookup.proofs.total_at.Goals as goal

pub returns : goal.returns
returns c = search total_is
