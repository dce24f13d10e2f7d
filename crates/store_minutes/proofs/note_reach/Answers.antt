-- The larger of what stood there and the node.
use Rattle.store_minutes.specs.Looking.{raised_word}
use Rattle.store_minutes.proofs.note_reach.Goals as goal

pub returns-clause-reach_after : goal.returns-clause-reach_after
returns-clause-reach_after c = search raised_word
