-- What is kept so far, and then from the calls that are left, is what is kept of the rides to the nearest places.
use mathlib.Core.Path.{◌≡◌}
use Prim.Native.Nat.{◌≤◌, ◌<◌, ◌-◌}
use lib.ListN.{length}
use Rattle.lines_lookup.specs.Calls.{calls_in, Inside}
use Rattle.query_places.specs.Candidates.{near_read}
use Rattle.query_kept.specs.Keeping.{keep_all}
use Rattle.query_places.specs.Turns.{near_calls}
use Rattle.query_places.specs.Turns as piece
use Rattle.query_kept.proofs.rides.keep_all.Given as goal

abbrev pub invariant-loop-k : goal.invariant-loop-k
invariant-loop-k l = (l.k ≤ 65536)
    × (l.end < 65536)
    × (l.end ≤ length l.v)
    × Inside l.v l.rest
    × (length l.kept ≡ 11520)
    × (keep_all l.best l.initial.kept (near_read l.v l.from l.minute l.to)
    ≡ keep_all l.best l.kept (near_calls l.v l.minute (calls_in l.v (piece.from l.k l.end)) (calls_in l.v l.rest)))

abbrev pub decreases-loop-k : goal.decreases-loop-k
decreases-loop-k l = l.end - l.k
