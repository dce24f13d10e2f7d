-- The words of the stops stand one behind the other.
use Rattle.timetable_writing.proofs.CopyLaws.{stops_copied}
use Rattle.timetable_writing.proofs.copy_stops.Goals as goal

pub returns-clause-body_after : goal.returns-clause-body_after
returns-clause-body_after c = search stops_copied
