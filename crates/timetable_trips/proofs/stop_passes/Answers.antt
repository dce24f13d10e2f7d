-- Three ways out, each a law of `passes`.
use Rattle.timetable_trips.proofs.StopLaws.{passes_astray, passes_early, passes_leaving}
use Rattle.timetable_trips.proofs.stop_passes.Goals as goal

pub returns-then-not-stop_follows : goal.returns-then-not-stop_follows
returns-then-not-stop_follows c = search passes_astray

pub returns-then-s : goal.returns-then-s
returns-then-s c = search passes_early

pub returns : goal.returns
returns c = search passes_leaving
