-- By the test.
use Rattle.store_nodes.specs.Joining.{joined_hit, joined_miss}
use Rattle.store_nodes.proofs.families.join.Goals as goal

pub returns-then-fresh-eq1 : goal.returns-then-fresh-eq1
returns-then-fresh-eq1 c = search joined_hit

pub returns : goal.returns
returns c = search joined_miss
