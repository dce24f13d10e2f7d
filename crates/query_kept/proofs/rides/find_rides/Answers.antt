-- None is kept at first, and then each ride is.
use Rattle.query_kept.specs.Keeping.{keeps_all}
use Rattle.query_kept.proofs.rides.find_rides.Goals as goal

pub returns-clause-keeps : goal.returns-clause-keeps
returns-clause-keeps c = search keeps_all
