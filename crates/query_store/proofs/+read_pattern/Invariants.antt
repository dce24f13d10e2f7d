-- By the node's number, which falls at its parent: the parent's stations are written, and those of the node's own
-- change make them two more. The room that the whole needs is more than the parent's.
use Rattle.query_store.proofs.+read_pattern.Given as goal

abbrev pub decreases-read_pattern : goal.decreases-read_pattern
decreases-read_pattern l = l.node
