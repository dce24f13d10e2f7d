-- The rides from the calls left are all rides sought: a call with no place to alight at, or with no trip in time, has
-- none.
use mathlib.Core.Path.{◌≡◌}
use Prim.Native.Nat.{◌≤◌, ◌<◌, ◌-◌}
use lib.ListN.{length}
use Rattle.lines_lookup.specs.Calls.{Inside}
use Rattle.query_rides.specs.Riding.{near_from}
use Rattle.query_rides.proofs.seek_call.Given as goal

abbrev pub invariant-loop-k : goal.invariant-loop-k
invariant-loop-k l = (l.k ≤ 65536)
    × (l.end < 65536)
    × (l.end ≤ length l.v)
    × Inside l.v l.rest
    × (near_from l.v l.minute (record { from = l.initial.k; end = l.end }) l.initial.rest
    ≡ near_from l.v l.minute (record { from = l.k; end = l.end }) l.rest)

abbrev pub decreases-loop-k : goal.decreases-loop-k
decreases-loop-k l = l.end - l.k
