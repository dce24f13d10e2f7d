-- The stop read is the one arrived at, so the offer and the ride onward are its own.
use borrow.Author.Rules.{rules}
use Rattle.timetable.specs.Access.{stations_few}
use Rattle.store_marks.proofs.RideLaws.{same_onward}
use Rattle.store_marks.proofs.ArrivalLaws.{arrival_few, stop_station}
use Rattle.store_marks.proofs.ride_turn.Goals as goal

pub stop_at-s-requires : goal.stop_at-s-requires
stop_at-s-requires c = (search rules, search stations_few, search arrival_few)

pub offer-requires-clause-way : goal.offer-requires-clause-way
offer-requires-clause-way c = (search rules, search rules, search stop_station)

pub returns-clause-result_value : goal.returns-clause-result_value
returns-clause-result_value c = search same_onward
