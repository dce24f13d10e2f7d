-- The first word of the position.
use Rattle.lines_lookup.specs.Lookup.{word_at}
use Rattle.lines_lookup.proofs.word_at.Goals as goal

pub returns : goal.returns
unfolding word_at
returns c = c.peek.ensures
