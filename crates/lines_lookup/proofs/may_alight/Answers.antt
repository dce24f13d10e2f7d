-- The mark decides.
use Rattle.lines_lookup.proofs.LookupLaws.{alights_is}
use Rattle.lines_lookup.proofs.may_alight.Goals as goal

pub returns : goal.returns
returns c = search alights_is
