-- The arc's test is made in its order; the depth of the node before it decides the last part.
use Rattle.query_store.proofs.TestLaws.{arc_unlisted, arc_unknown, arc_decides}
use Rattle.query_store.proofs.arc_made.Goals as goal

pub returns-then-not-is_listed : goal.returns-then-not-is_listed
returns-then-not-is_listed c = search arc_unlisted

pub returns-then-node_count-before : goal.returns-then-node_count-before
returns-then-node_count-before c = search arc_unknown

pub returns : goal.returns
returns c = search arc_decides
