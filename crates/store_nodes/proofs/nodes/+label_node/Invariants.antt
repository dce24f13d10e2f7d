-- By the node's number, which falls at its parent.
use Rattle.store_nodes.proofs.nodes.+label_node.Given as goal

abbrev pub decreases-label_node : goal.decreases-label_node
decreases-label_node l = l.node
