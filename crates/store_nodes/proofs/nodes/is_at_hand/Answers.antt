-- The word is compared with one more than the node.
use Rattle.store_nodes.specs.Hand.{compared}
use Rattle.store_nodes.proofs.nodes.is_at_hand.Goals as goal

pub returns : goal.returns
returns c = search compared
