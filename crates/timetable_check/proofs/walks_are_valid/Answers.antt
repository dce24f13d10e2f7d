use Rattle.timetable_check.proofs.CheckLaws.{walk_bad, walk_good, walks_done}
use Rattle.timetable_check.proofs.walks_are_valid.Goals as goal

pub returns-then-not-walk_stands : goal.returns-then-not-walk_stands
returns-then-not-walk_stands c = search walk_bad

pub loop-k-preserved : goal.loop-k-preserved
loop-k-preserved c = search walk_good

pub returns : goal.returns
returns c = search walks_done
