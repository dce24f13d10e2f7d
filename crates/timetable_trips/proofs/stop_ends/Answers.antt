-- Three ways out, each a law of `ends`.
use Rattle.timetable_trips.proofs.StopLaws.{depart_some, ride_some, ending_mark}
use Rattle.timetable_trips.proofs.stop_ends.Goals as goal

pub returns-then-s-ne0 : goal.returns-then-s-ne0
returns-then-s-ne0 c = search depart_some

pub returns-then-s-ne0-2 : goal.returns-then-s-ne0-2
returns-then-s-ne0-2 c = search ride_some

pub returns : goal.returns
returns c = search ending_mark
