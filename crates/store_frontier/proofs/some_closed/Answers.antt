use borrow.Author.Rules.{rules}
use Rattle.timetable.specs.Access.{stations_few}
use Rattle.store_frontier.specs.Allowing.{stop_below, open_none, open_more, open_all, told_closed}
use Rattle.store_frontier.proofs.some_closed.Goals as goal

pub loop-j-init : goal.loop-j-init
loop-j-init c = search open_none

pub stop_at-requires : goal.stop_at-requires
stop_at-requires c = (search rules, search stations_few, search stop_below)

pub returns-then-not-may_alight : goal.returns-then-not-may_alight
returns-then-not-may_alight c = search told_closed

pub loop-j-preserved : goal.loop-j-preserved
loop-j-preserved c = search open_more

pub returns : goal.returns
returns c = search open_all
