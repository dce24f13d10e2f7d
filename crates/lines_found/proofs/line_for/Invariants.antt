-- No line before the one walked to can be joined.
use mathlib.Core.Path.{◌≡◌}
use Prim.Native.Nat.{◌-◌}
use Rattle.timetable.specs.Words.{trip_at}
use Rattle.lines_found.specs.Glance.{course_of}
use Rattle.lines_found.proofs.WalkLaws.{Walked}
use Rattle.lines_found.proofs.line_for.Given as goal

abbrev pub invariant-loop-line : goal.invariant-loop-line
invariant-loop-line l = (l.course ≡ course_of (trip_at l.words l.z)) × Walked l.words l.lasts l.lines l.z l.course
    l.line

abbrev pub decreases-loop-line : goal.decreases-loop-line
decreases-loop-line l = 256 - l.line
