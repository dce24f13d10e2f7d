-- The five words are the stop by definition.
use Rattle.timetable.proofs.WordAtLaws.{stop_read_lem}
use Rattle.timetable.proofs.stop_in.Goals as goal

pub returns : goal.returns
returns c = search stop_read_lem
