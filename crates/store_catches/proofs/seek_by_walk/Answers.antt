-- As after a change at the station itself, with what the walk says.
use Rattle.timetable.specs.Access.{stations_few}
use Rattle.store_catches.proofs.CatchLaws.{here_in_time, caught_on_foot, caught_closed}
use borrow.Author.Rules.{rules}
use Rattle.store_catches.proofs.seek_by_walk.Goals as goal

pub stop_at-stop-requires : goal.stop_at-stop-requires
stop_at-stop-requires c = (search rules, search stations_few, search rules)

pub minute_after-ready-requires : goal.minute_after-ready-requires
minute_after-ready-requires c = search here_in_time

pub returns-then-may_alight : goal.returns-then-may_alight
returns-then-may_alight c = (search caught_on_foot, search rules)

pub returns : goal.returns
returns c = (search caught_closed, search rules)
