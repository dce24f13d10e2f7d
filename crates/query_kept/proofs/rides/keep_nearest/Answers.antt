-- Where there is a place to ride to, the rides to it are kept; else there are none.
use Rattle.query_kept.proofs.KeepLaws.{kept_none, kept_nearest}
use Rattle.query_kept.proofs.rides.keep_nearest.Goals as goal

pub returns-in-Some-clause-kept_after : goal.returns-in-Some-clause-kept_after
returns-in-Some-clause-kept_after c = search kept_nearest

pub returns-in_default-clause-kept_after : goal.returns-in_default-clause-kept_after
returns-in_default-clause-kept_after c = search kept_none
