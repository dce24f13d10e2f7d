use Rattle.timetable_trips.proofs.TripLaws.{run_starts, run_short, run_ends, run_astray, run_breaks, run_goes_on}
use Rattle.timetable_trips.proofs.trip_runs.Goals as goal

pub loop-i-init : goal.loop-i-init
loop-i-init c = search run_starts

pub returns-then-stop_follows : goal.returns-then-stop_follows
returns-then-stop_follows c = search run_ends

pub returns-then-i-end : goal.returns-then-i-end
returns-then-i-end c = search run_astray

pub returns-then-not-stop_passes : goal.returns-then-not-stop_passes
returns-then-not-stop_passes c = search run_breaks

pub loop-i-preserved : goal.loop-i-preserved
loop-i-preserved c = search run_goes_on

pub returns : goal.returns
returns c = search run_short
