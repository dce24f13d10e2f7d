-- The words before the next line agree, so all depends on those from it on.
use mathlib.Core.Path.{◌≡◌}
use Prim.Native.Nat.{◌≤◌, ◌-◌}
use lib.ListN.{drop}
use Rattle.timetable.specs.Words.{timetable_of}
use Rattle.lines_turned.specs.ByTrip.{words_by_trip}
use Rattle.lines_turned.specs.Turned.{starts}
use Rattle.lines_turned.specs.Turning.{are_by_trip}
use Rattle.lines_turned.specs.Laid.{line_start}
use Rattle.lines_turned.proofs.is_turned.Given as goal

abbrev pub invariant-loop-i : goal.invariant-loop-i
invariant-loop-i l = (l.i ≤ l.count)
    × (are_by_trip l.words l.other
    ≡ starts (drop (line_start (timetable_of l.words) l.i) (words_by_trip (timetable_of l.words)))
    (drop (line_start (timetable_of l.words) l.i) l.other))
