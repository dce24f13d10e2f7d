-- A trip is valid exactly if its first stop begins it and the stops behind run to its end.
use Rattle.timetable_trips.proofs.TripLaws.{trip_empty, trip_unbegun, trip_begun}
use Rattle.timetable_trips.proofs.trip_is_valid.Goals as goal

pub returns-then-end-first : goal.returns-then-end-first
returns-then-end-first c = search trip_empty

pub returns-then-not-stop_begins : goal.returns-then-not-stop_begins
returns-then-not-stop_begins c = search trip_unbegun

pub returns : goal.returns
returns c = search trip_begun
