-- The arrivals that are left, from stop j on, come to all arrivals of the ride.
use mathlib.Core.Path.{◌≡◌}
use Prim.Native.Nat.{◌≤◌, ◌-◌, ◌+◌, ◌*◌}
use lib.ListN.{length}
use Rattle.connections.specs.Connections.{on_foot}
use Rattle.store_stops.specs.Stopwise.{Goes, points as points_of}
use Rattle.store_marks.specs.Riding.{visits, run, offer}
use Rattle.store_marks.proofs.ride_on.Given as goal

abbrev pub invariant-loop-way : goal.invariant-loop-way
invariant-loop-way l = Goes l.words l.j × (l.ride.0 ≡ points_of l.words l.j) × (l.y.0 ≤ 3166900 + 100 * l.j) ×
    (length l.x ≡ 2048) × (length l.initial.x ≡ 2048)
    × (run (offer l.words (on_foot l.way)) (visits l.words l.c (2048 - l.i) l.i l.initial.y.0) l.initial.x
    ≡ run (offer l.words (on_foot l.way)) (visits l.words l.c (2048 - l.j) l.j l.y.0) l.x)

abbrev pub decreases-loop-way : goal.decreases-loop-way
decreases-loop-way l = 2048 - l.j
