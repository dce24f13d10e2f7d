-- With a number within the limit both places stay inside the slice; the words there are the station by definition.
use Rattle.timetable.proofs.WordAtLaws.{station_there}
use Rattle.timetable.proofs.station_at.Goals as goal

pub returns : goal.returns
returns c = search station_there
