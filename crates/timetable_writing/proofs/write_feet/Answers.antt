use Rattle.std.proofs.Common.{◌≤◌, ◌<◌, arith}
use Rattle.timetable_writing.proofs.WriteLaws.{feet_none, feet_more, feet_written}
use Rattle.timetable_writing.proofs.write_feet.Goals as goal

pub loop-y-init : goal.loop-y-init
loop-y-init c = search feet_none

pub loop-y-preserved : goal.loop-y-preserved
loop-y-preserved c = let inside : c.loop-y.y ≤ c.args.stations = omega arith in search feet_more

pub returns-clause-timetable_after : goal.returns-clause-timetable_after
returns-clause-timetable_after c = let over : c.args.stations < c.loop-y.y = omega arith in search feet_written
