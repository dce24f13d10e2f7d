-- What is left of the times goes to the words behind those of p stops.
use mathlib.Core.Path.{◌≡◌}
use Prim.Native.Nat.{◌≤◌, ◌+◌, ◌-◌, ◌*◌}
use lib.ListN.{length}
use Rattle.words.specs.Put.{put}
use Rattle.lines_turned.specs.Turned.{stepped}
use Rattle.lines_turned.proofs.write_trip.Given as goal

abbrev pub invariant-loop-p : goal.invariant-loop-p
invariant-loop-p l = (l.p ≤ l.stops)
    × (l.k ≤ 32768 + 32768 * l.p)
    × (length l.out ≡ length l.initial.out)
    × (put l.at (stepped l.lines l.from l.trips l.stops) l.initial.out ≡ put (l.at + 2 * l.p)
    (stepped l.lines l.k l.trips (l.stops - l.p)) l.out)
