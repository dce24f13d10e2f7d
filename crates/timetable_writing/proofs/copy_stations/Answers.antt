-- The words of the stations stand one behind the other.
use Rattle.timetable_writing.proofs.CopyLaws.{stations_copied}
use Rattle.timetable_writing.proofs.copy_stations.Goals as goal

pub returns-clause-body_after : goal.returns-clause-body_after
returns-clause-body_after c = search stations_copied
