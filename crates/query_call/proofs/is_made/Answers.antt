-- The first word of the timetable counts its stations.
use Rattle.query_call.specs.Shown.{made_for}
use Rattle.query_call.proofs.is_made.Goals as goal

pub returns : goal.returns
returns c = search made_for
