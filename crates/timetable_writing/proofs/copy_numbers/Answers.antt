-- The numbers of the trips stand one behind the other.
use Rattle.timetable_writing.proofs.CopyLaws.{numbers_copied}
use Rattle.timetable_writing.proofs.copy_numbers.Goals as goal

pub returns-clause-numbers_after : goal.returns-clause-numbers_after
returns-clause-numbers_after c = search numbers_copied
