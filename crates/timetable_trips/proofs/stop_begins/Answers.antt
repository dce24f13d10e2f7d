-- Three ways out, each a law of `begins`.
use Rattle.timetable_trips.proofs.StopLaws.{begins_unlisted, begins_arriving, begins_leaving}
use Rattle.timetable_trips.proofs.stop_begins.Goals as goal

pub returns-then-not-is_listed : goal.returns-then-not-is_listed
returns-then-not-is_listed c = search begins_unlisted

pub returns-then-s-ne0 : goal.returns-then-s-ne0
returns-then-s-ne0 c = search begins_arriving

pub returns : goal.returns
returns c = search begins_leaving
