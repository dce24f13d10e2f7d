-- Three ways out: the walk is not valid, it is the last, or the next decides.
use Rattle.timetable_check.proofs.CheckLaws.{walk_falls, walk_last, walk_next}
use Rattle.timetable_check.proofs.walk_stands.Goals as goal

pub returns-then-not-walk_is_valid : goal.returns-then-not-walk_is_valid
returns-then-not-walk_is_valid c = search walk_falls

pub returns-then-walks-k : goal.returns-then-walks-k
returns-then-walks-k c = search walk_last

pub returns : goal.returns
returns c = search walk_next
