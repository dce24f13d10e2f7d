-- The word of the node tells its parent.
use Rattle.store_nodes.specs.Hope.{kin_past, kin_same}
use Rattle.store_nodes.proofs.families.is_kid.Goals as goal

pub returns-then-hi-node : goal.returns-then-hi-node
returns-then-hi-node c = search kin_past

pub returns : goal.returns
returns c = search kin_same
