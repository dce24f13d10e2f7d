-- The numbers are counted first; then all words are written.
use Rattle.reading.proofs.ReadLaws.{numbers_written}
use Rattle.reading.proofs.write_timetable.Goals as goal

pub returns-clause-timetable_after : goal.returns-clause-timetable_after
returns-clause-timetable_after c = search numbers_written
