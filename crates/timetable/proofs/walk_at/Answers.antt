-- With counts within the limits the places stay inside the slice; the words there are the walk by definition.
use Rattle.timetable.proofs.WordAtLaws.{walk_there}
use Rattle.timetable.proofs.walk_at.Goals as goal

pub returns : goal.returns
returns c = search walk_there
