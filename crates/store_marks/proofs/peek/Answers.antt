-- Past the end the word is 0.
use Rattle.lists.specs.Places.{past}
use Rattle.store_marks.proofs.peek.Goals as goal

pub returns : goal.returns
returns c = search past
