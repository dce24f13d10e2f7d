-- A station, or a walk.
use borrow.Author.Rules.{rules}
use Rattle.timetable.specs.Access.{stations_few, trips_few, stops_few}
use Rattle.store_slots.proofs.ListLaws.{here_alighted, here_boarded, foot_alighted, foot_boarded}
use Rattle.store_slots.proofs.transfer_at.Goals as goal

pub returns-then-slot-lt-STATIONS_MOST : goal.returns-then-slot-lt-STATIONS_MOST
returns-then-slot-lt-STATIONS_MOST c = (search here_alighted, search here_boarded)

pub walk_at-walk-requires : goal.walk_at-walk-requires
walk_at-walk-requires c = (search rules, search stations_few, search trips_few, search stops_few, search rules)

pub returns : goal.returns
returns c = (search foot_alighted, search foot_boarded)
