-- What was counted and the trips on the lines left are the whole.
use mathlib.Core.Path.{◌≡◌}
use Prim.Native.Nat.{◌≤◌, ◌-◌, ◌+◌, ◌*◌}
use Rattle.lines_alone.specs.Drawn.{trips_from}
use Rattle.lines_alone.proofs.trips_on.Given as goal

abbrev pub invariant-loop-i : goal.invariant-loop-i
invariant-loop-i l = (l.i ≤ l.lines) × (l.count ≤ 65535 * l.i) ×
    (trips_from l.v 0 l.lines ≡ l.count + trips_from l.v l.i (l.lines - l.i))
