-- A trip past the last does not run; one that stands in its place has the number or a higher one.
use borrow.Author.Rules.{rules}
use Rattle.timetable.specs.Access.{stations_few, trips_few, stops_few}
use Rattle.changes_places.proofs.PlaceLaws.{trip_few, runs_past, runs_here}
use Rattle.changes_places.proofs.is_running.Goals as goal

pub returns-then-word-place : goal.returns-then-word-place
returns-then-word-place c = search runs_past

pub number_at-requires : goal.number_at-requires
number_at-requires c = (search rules, search stations_few, search trips_few, search stops_few, search trip_few)

pub returns : goal.returns
returns c = search runs_here
