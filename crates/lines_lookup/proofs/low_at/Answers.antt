-- The word after that of station and mark.
use Rattle.lines_lookup.specs.Lookup.{low_at}
use Rattle.lines_lookup.proofs.low_at.Goals as goal

pub returns : goal.returns
unfolding low_at
returns c = c.peek.ensures
