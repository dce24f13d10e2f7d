-- The times of the trips before place j agree, so all depends on the others; they end where the line ends.
use mathlib.Core.Path.{◌≡◌}
use Prim.Native.Nat.{◌≤◌, ◌+◌, ◌-◌, ◌*◌}
use lib.ListN.{drop}
use Rattle.lines_turned.specs.Turned.{turned_trips, line_end, starts}
use Rattle.lines_turned.proofs.same_trips.Given as goal

abbrev pub invariant-loop-j : goal.invariant-loop-j
invariant-loop-j l = (l.j ≤ l.l.trips)
    × (l.at + (l.l.trips - l.j) * (2 * l.l.positions) ≡ line_end l.l)
    × (starts (turned_trips l.work l.from l.l.trips l.l.positions l.l.trips) (drop l.from l.other)
    ≡ starts (turned_trips l.work (l.from + l.j) l.l.trips l.l.positions (l.l.trips - l.j)) (drop l.at l.other))
