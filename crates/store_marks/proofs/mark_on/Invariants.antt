-- The arrivals that are left, from stop j on, come to all arrivals of the ride.
use mathlib.Core.Path.{◌≡◌}
use mathlib.Core.Bool.{true}
use Prim.Native.Nat.{◌≤◌, ◌-◌, ◌+◌, ◌*◌}
use lib.ListN.{length}
use Rattle.timetable.specs.Words.{is_timetable}
use Rattle.store_stops.specs.Stopwise.{Goes, points as points_of}
use Rattle.store_marks.specs.Riding.{visits, run, flag_arc, flag_kids}
use Rattle.store_marks.proofs.mark_on.Given as goal

abbrev pub invariant-loop-y : goal.invariant-loop-y
invariant-loop-y l = (is_timetable l.words ≡ true) × Goes l.words l.j × (l.ride.0 ≡ points_of l.words l.j) ×
    (l.y.0 ≤ 3166900 + 100 * l.j)
    × (length l.arcs ≡ 64) × (length l.kids ≡ 320) × (length l.initial.arcs ≡ 64) × (length l.initial.kids ≡ 320)
    × (run (flag_arc l.words l.allowed) (visits l.words l.c (2048 - l.i) l.i l.initial.y.0) l.initial.arcs
    ≡ run (flag_arc l.words l.allowed) (visits l.words l.c (2048 - l.j) l.j l.y.0) l.arcs)
    × (run (flag_kids l.words l.q) (visits l.words l.c (2048 - l.i) l.i l.initial.y.0) l.initial.kids
    ≡ run (flag_kids l.words l.q) (visits l.words l.c (2048 - l.j) l.j l.y.0) l.kids)

abbrev pub decreases-loop-y : goal.decreases-loop-y
decreases-loop-y l = 2048 - l.j
