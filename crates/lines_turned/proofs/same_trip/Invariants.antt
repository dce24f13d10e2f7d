-- The times at p stops agree, so all depends on the others.
use mathlib.Core.Path.{◌≡◌}
use Prim.Native.Nat.{◌≤◌, ◌+◌, ◌-◌, ◌*◌}
use lib.ListN.{drop}
use Rattle.lines_turned.specs.Turned.{stepped, starts}
use Rattle.lines_turned.proofs.same_trip.Given as goal

abbrev pub invariant-loop-p : goal.invariant-loop-p
invariant-loop-p l = (l.p ≤ l.stops)
    × (l.k ≤ 32768 + 32768 * l.p)
    × (starts (stepped l.work l.from l.trips l.stops) (drop l.at l.other)
    ≡ starts (stepped l.work l.k l.trips (l.stops - l.p)) (drop (l.at + 2 * l.p) l.other))
