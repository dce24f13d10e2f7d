-- The words of the walks stand behind their counts by station.
use Rattle.timetable_writing.proofs.WriteLaws.{walks_written}
use Rattle.timetable_writing.proofs.write_walks.Goals as goal

pub returns-clause-timetable_after : goal.returns-clause-timetable_after
returns-clause-timetable_after c = search walks_written
