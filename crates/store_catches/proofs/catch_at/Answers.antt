-- Two ways out: where one may alight, and where not.
use Rattle.timetable.specs.Access.{stations_few}
use Rattle.store_catches.proofs.CatchLaws.{here_some, here_listed, here_few, here_in_time}
use Rattle.store_catches.proofs.CatchLaws.{caught_open, caught_closed}
use borrow.Author.Rules.{rules}
use Rattle.store_catches.proofs.catch_at.Goals as goal

pub stop_at-stop-requires : goal.stop_at-stop-requires
stop_at-stop-requires c = (search rules, search stations_few, search rules)

pub stay_at-change-requires : goal.stay_at-change-requires
stay_at-change-requires c = (search rules, search rules, search here_some, search here_listed)

pub minute_after-ready-requires : goal.minute_after-ready-requires
minute_after-ready-requires c = search here_in_time

pub soonest_at-requires : goal.soonest_at-requires
soonest_at-requires c = (search rules, search rules, search rules, search here_few)

pub returns-then-may_alight : goal.returns-then-may_alight
returns-then-may_alight c = (search caught_open, search rules)

pub returns : goal.returns
returns c = (search caught_closed, search rules)
