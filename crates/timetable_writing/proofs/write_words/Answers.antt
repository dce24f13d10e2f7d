-- What is said of walks stands behind the rest.
use Rattle.timetable_writing.proofs.WriteLaws.{table_written}
use Rattle.timetable_writing.proofs.write_words.Goals as goal

pub returns-clause-timetable_after : goal.returns-clause-timetable_after
returns-clause-timetable_after c = search table_written
