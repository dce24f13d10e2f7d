-- The words of what the arrays hold are written over the old ones.
use Rattle.changes_words.proofs.FillLaws.{in_words}
use Rattle.changes_words.proofs.put_in.Goals as goal

pub returns-clause-timetable_after : goal.returns-clause-timetable_after
returns-clause-timetable_after c = search in_words
