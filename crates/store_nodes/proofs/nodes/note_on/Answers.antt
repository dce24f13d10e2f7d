-- The word behind those of the stations is written, from what it was before.
use Rattle.store_nodes.specs.Hand.{noted_on}
use Rattle.store_nodes.proofs.nodes.note_on.Goals as goal

pub returns-clause-noted_on : goal.returns-clause-noted_on
returns-clause-noted_on c = search noted_on
