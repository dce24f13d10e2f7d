-- The rides of the calls passed are noted; those of the calls that are left make the rest. Inside, no trip before place
-- j leaves in time: where none is left the call has no rides, and where one leaves, it is the first that does.
use mathlib.Core.Path.{◌≡◌}
use Prim.Native.Nat.{◌≤◌, ◌<◌, ◌-◌}
use lib.ListN.{length}
use Rattle.lines_lookup.specs.Calls.{calls_in, Inside}
use Rattle.query_minutes.specs.Minutes.{note_all}
use Rattle.query_places.specs.Candidates.{first_read}
use Rattle.query_places.specs.Turns.{first_calls}
use Rattle.query_places.specs.Turns as piece
use Rattle.query_direct.proofs.CallLaws.{Sought}
use Rattle.query_direct.proofs.costs.note_first.Given as goal

abbrev pub invariant-loop-j : goal.invariant-loop-j
invariant-loop-j l = (l.k ≤ 65536) × Sought l.v l.g.line l.g.call.place l.minute l.j

abbrev pub decreases-loop-j : goal.decreases-loop-j
decreases-loop-j l = l.g.line.trips - l.j

abbrev pub invariant-calls : goal.invariant-calls
invariant-calls l = (l.k ≤ 65536)
    × (l.end < 65536)
    × (l.end ≤ length l.v)
    × Inside l.v l.rest
    × (length l.best ≡ length l.initial.best)
    × (note_all l.initial.best (first_read l.v l.from l.minute l.to)
    ≡ note_all l.best (first_calls l.v l.minute (calls_in l.v (piece.from l.k l.end)) (calls_in l.v l.rest)))

abbrev pub decreases-calls : goal.decreases-calls
decreases-calls l = l.end - l.k
