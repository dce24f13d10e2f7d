use Rattle.lines_trips.proofs.TripLaws.{other_length, whole_trips, both_end, parts_here, agrees_here}
use Rattle.lines_trips.proofs.joins.Goals as goal

pub returns-then-back-count : goal.returns-then-back-count
returns-then-back-count c = search other_length

pub loop-k-init : goal.loop-k-init
loop-k-init c = search whole_trips

pub returns-then-not-stop_joins : goal.returns-then-not-stop_joins
returns-then-not-stop_joins c = search parts_here

pub loop-k-preserved : goal.loop-k-preserved
loop-k-preserved c = search agrees_here

pub returns : goal.returns
returns c = search both_end
