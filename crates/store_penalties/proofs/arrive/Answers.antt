-- The word that is stored is the lesser of the two, and the changes are offered from there.
use borrow.Author.Rules.{rules}
use Rattle.timetable.specs.Access.{stations_few}
use Rattle.store_penalties.proofs.ArriveLaws.{station_some, station_few, station_is, station_cheap, station_caught}
use Rattle.store_penalties.proofs.ArriveLaws.{paid_most, arrived, offered}
use Rattle.store_penalties.proofs.arrive.Goals as goal

pub stop_at-c-requires : goal.stop_at-c-requires
stop_at-c-requires c = (search rules, search stations_few, search rules)

pub change-requires : goal.change-requires
change-requires c = (
  search rules,
  search rules,
  search rules,
  search station_some,
  search station_few,
  search rules,
  search rules,
  search station_is,
  search station_cheap,
  search paid_most,
  search rules,
  search station_caught,
)

pub returns-clause-v_after : goal.returns-clause-v_after
returns-clause-v_after c = search arrived

pub returns-clause-offering : goal.returns-clause-offering
returns-clause-offering c = search offered
