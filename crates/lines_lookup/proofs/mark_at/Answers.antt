-- The mark stands above the station.
use Rattle.lines_lookup.proofs.LookupLaws.{mark_is, mark_small}
use Rattle.lines_lookup.proofs.mark_at.Goals as goal

pub returns : goal.returns
returns c = (search mark_is, search mark_small)
