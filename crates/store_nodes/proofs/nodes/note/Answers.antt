-- One word is written.
use Rattle.store_nodes.specs.Hand.{noted_word}
use Rattle.store_nodes.proofs.nodes.note.Goals as goal

pub returns-clause-noted : goal.returns-clause-noted
returns-clause-noted c = search noted_word
