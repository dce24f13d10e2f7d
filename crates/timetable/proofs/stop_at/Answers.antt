-- With counts within the limits all five places stay inside the slice.
use Rattle.timetable.proofs.WordAtLaws.{stop_there}
use Rattle.timetable.proofs.stop_at.Goals as goal

pub returns : goal.returns
returns c = search stop_there
