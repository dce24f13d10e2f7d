use borrow.Author.Rules.{rules}
use Rattle.timetable.specs.Access.{stations_few}
use Rattle.store_frontier.specs.Allowing.{stop_below, closing_none, closing_more, closing_all}
use Rattle.store_frontier.proofs.close_stops.Goals as goal

pub loop-j-init : goal.loop-j-init
loop-j-init c = (search rules, search closing_none)

pub close_stop-requires : goal.close_stop-requires
close_stop-requires c = (search rules, search stations_few, search stop_below, search rules)

pub loop-j-preserved : goal.loop-j-preserved
loop-j-preserved c = (search rules, search closing_more)

pub returns-clause-closed : goal.returns-clause-closed
returns-clause-closed c = search closing_all
