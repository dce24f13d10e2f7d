-- The second word of the node's three.
use Rattle.query_store.specs.Entries.{node_boarded}
use Rattle.query_store.proofs.node_boarded.Goals as goal

pub returns : goal.returns
unfolding node_boarded
returns c = c.word.ensures
