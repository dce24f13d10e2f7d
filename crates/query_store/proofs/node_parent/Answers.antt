-- The third word of the node's three.
use Rattle.query_store.specs.Entries.{node_parent}
use Rattle.query_store.proofs.node_parent.Goals as goal

pub returns : goal.returns
unfolding node_parent
returns c = c.word.ensures
