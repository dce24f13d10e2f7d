-- What is written and where one is behind the ride stands in the callees' promises.
use Rattle.query_shown.proofs.WayLaws.{moved}
use Rattle.query_shown.proofs.rides.move_on.Goals as goal

pub returns-clause-moved : goal.returns-clause-moved
returns-clause-moved c = search moved
