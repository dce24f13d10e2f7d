use Rattle.std.proofs.Common.{◌≤◌, ◌<◌, arith}
use Rattle.timetable_check.proofs.CheckLaws.{feet_differ, feet_agree, feet_done}
use Rattle.timetable_check.proofs.walks_are_counted.Goals as goal

pub returns-then-walks_to-count_to : goal.returns-then-walks_to-count_to
returns-then-walks_to-count_to c = let inside : c.loop-y.y ≤ c.args.stations = omega arith in search feet_differ

pub loop-y-preserved : goal.loop-y-preserved
loop-y-preserved c = let inside : c.loop-y.y ≤ c.args.stations = omega arith in search feet_agree

pub returns : goal.returns
returns c = let over : c.args.stations < c.loop-y.y = omega arith in search feet_done
