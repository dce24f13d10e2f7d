-- The root is not passed over; other nodes are where their parents are behind those looked at.
use Rattle.store_minutes.specs.Looking.{over_root, over_test}
use Rattle.store_minutes.proofs.is_quiet.Goals as goal

pub returns-then-chunk-eq0 : goal.returns-then-chunk-eq0
returns-then-chunk-eq0 c = search over_root

pub returns : goal.returns
returns c = search over_test
