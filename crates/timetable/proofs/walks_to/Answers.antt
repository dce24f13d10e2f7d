-- With counts within the limits the place stays inside the slice; the word there is the count by definition.
use borrow.Author.Rules.{rules}
use Rattle.timetable.proofs.WordAtLaws.{feet_there}
use Rattle.timetable.proofs.walks_to.Goals as goal

pub returns : goal.returns
returns c = (search feet_there, search rules)
