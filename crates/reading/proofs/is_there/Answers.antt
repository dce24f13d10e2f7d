-- A station, or the extra trip, as the rules say.
use Rattle.reading.proofs.TakeLaws.{extra_there, station_there}
use Rattle.reading.proofs.is_there.Goals as goal

pub returns-then-rules : goal.returns-then-rules
returns-then-rules c = search extra_there

pub returns : goal.returns
returns c = search station_there
