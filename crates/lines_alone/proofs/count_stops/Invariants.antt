-- What was counted and the stops of the trips left are the whole.
use mathlib.Core.Path.{◌≡◌}
use Prim.Native.Nat.{◌≤◌, ◌-◌, ◌+◌, ◌*◌}
use lib.ListN.{length}
use Rattle.timetable.specs.Timetable.{stops_of}
use Rattle.lines_alone.specs.Drawn.{drawn_trips}
use Rattle.lines_alone.proofs.count_stops.Given as goal

abbrev pub invariant-loop-z : goal.invariant-loop-z
invariant-loop-z l = (l.z ≤ l.trips)
    × (l.count ≤ 65535 * l.z)
    × (length (stops_of (drawn_trips l.v 0 l.trips)) ≡ l.count + length
    (stops_of (drawn_trips l.v l.z (l.trips - l.z))))
