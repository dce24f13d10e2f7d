-- The first word of the node's three.
use Rattle.query_store.specs.Entries.{node_alighted}
use Rattle.query_store.proofs.node_alighted.Goals as goal

pub returns : goal.returns
unfolding node_alighted
returns c = c.word.ensures
