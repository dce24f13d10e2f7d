use Rattle.lines_lookup.specs.Lookup.{number_at}
use Rattle.lines_lookup.proofs.number_at.Goals as goal

pub returns : goal.returns
unfolding number_at
returns c = c.peek.ensures
