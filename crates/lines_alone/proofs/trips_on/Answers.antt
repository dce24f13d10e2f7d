use borrow.Author.Rules.{rules}
use Rattle.lines_alone.proofs.CountLaws.{trips_first, trips_more, trips_counted}
use Rattle.lines_alone.proofs.trips_on.Goals as goal

pub loop-i-init : goal.loop-i-init
loop-i-init c = (search rules, search rules, search trips_first)

pub loop-i-preserved : goal.loop-i-preserved
loop-i-preserved c = (search rules, search rules, search trips_more)

pub returns : goal.returns
returns c = search trips_counted
