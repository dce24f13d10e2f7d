-- The stops passed are right, so that the trip runs to its end exactly if the stops from i on do.
use mathlib.Core.Path.{◌≡◌}
use Prim.Native.Nat.{◌+◌}
use Rattle.timetable.specs.Timetable.{runs}
use Rattle.timetable.specs.Words.{stop_at}
use Rattle.timetable.specs.Check.{stops_at}
use Rattle.timetable_trips.proofs.trip_runs.Given as goal

abbrev pub invariant-loop-i : goal.invariant-loop-i
invariant-loop-i l = (runs l.n (stop_at l.words l.first) (stops_at l.words (l.first + 1) l.end) ≡ runs l.n l.before
    (stops_at l.words l.i l.end))
