-- With counts within the limits the place stays inside the slice; the word there is the start by definition.
use borrow.Author.Rules.{rules}
use Rattle.timetable.proofs.WordAtLaws.{start_there}
use Rattle.timetable.proofs.start_at.Goals as goal

pub returns : goal.returns
returns c = (search start_there, search rules)
