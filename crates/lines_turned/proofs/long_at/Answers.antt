-- A word past the end counts as 0.
use Rattle.lists.specs.Places.{past}
use Rattle.lines_turned.proofs.long_at.Goals as goal

pub returns : goal.returns
returns c = search past
