-- One test after the other.
use Rattle.query_store.proofs.TestLaws.{unlisted, listed}
use Rattle.query_store.proofs.is_listed.Goals as goal

pub returns-then-station-lt1 : goal.returns-then-station-lt1
returns-then-station-lt1 c = search unlisted

pub returns : goal.returns
returns c = search listed
