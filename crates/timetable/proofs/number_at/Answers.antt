-- With counts within the limits the place stays inside the slice; the word there is the number by definition.
use borrow.Author.Rules.{rules}
use Rattle.timetable.proofs.WordAtLaws.{number_there}
use Rattle.timetable.proofs.number_at.Goals as goal

pub returns : goal.returns
returns c = (search number_there, search rules)
