use borrow.Author.Rules.{rules}
use Rattle.timetable.specs.Access.{stations_few}
use Rattle.store_frontier.specs.Allowing.{allowing_none}
use Rattle.store_frontier.proofs.FrontLaws.{station_listed, stations_more, stations_all}
use Rattle.store_frontier.proofs.allow_all.Goals as goal

pub loop-c-init : goal.loop-c-init
loop-c-init c = (search rules, (search rules, search allowing_none))

pub allow_part-requires : goal.allow_part-requires
allow_part-requires c = (
  search rules,
  search rules,
  search rules,
  search rules,
  search station_listed,
  search stations_few,
  search rules,
)

pub loop-c-preserved : goal.loop-c-preserved
loop-c-preserved c = (search rules, (search rules, search stations_more))

pub returns-clause-allows_ahead : goal.returns-clause-allows_ahead
returns-clause-allows_ahead c = search stations_all
