use borrow.Author.Rules.{rules}
use Rattle.timetable_trips.proofs.TripLaws.{trip_falls, trip_beyond, trip_bad, trip_good, trips_done}
use Rattle.timetable_trips.proofs.trips_are_valid.Goals as goal

pub returns-then-end-first : goal.returns-then-end-first
returns-then-end-first c = search trip_falls

pub returns-then-stops-end : goal.returns-then-stops-end
returns-then-stops-end c = search trip_beyond

pub returns-then-not-trip_is_valid : goal.returns-then-not-trip_is_valid
returns-then-not-trip_is_valid c = search trip_bad

pub loop-k-preserved : goal.loop-k-preserved
loop-k-preserved c = (search rules, search rules, search trip_good)

pub returns : goal.returns
returns c = search trips_done
