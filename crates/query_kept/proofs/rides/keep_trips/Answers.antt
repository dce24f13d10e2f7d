use Rattle.query_kept.proofs.KeepLaws.{trips_more, trips_done}
use borrow.Author.Rules.{rules}
use Rattle.query_kept.proofs.rides.keep_trips.Goals as goal

pub loop-j-preserved : goal.loop-j-preserved
loop-j-preserved c = (search rules, search trips_more)

pub returns-clause-kept_after : goal.returns-clause-kept_after
returns-clause-kept_after c = search trips_done
