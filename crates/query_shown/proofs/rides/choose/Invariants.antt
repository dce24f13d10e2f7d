-- The best ride so far, and then those from the calls that are left, make the same choice as all to the nearest places.
use mathlib.Core.Path.{◌≡◌}
use Prim.Native.Nat.{◌≤◌, ◌<◌, ◌-◌}
use lib.ListN.{length}
use Rattle.lines_lookup.specs.Calls.{calls_in, Inside}
use Rattle.query_places.specs.Candidates.{near_read}
use Rattle.query_places.specs.Turns.{near_calls}
use Rattle.query_places.specs.Turns as piece
use Rattle.query_rests.specs.Turns.{tells_of}
use Rattle.query_shown.specs.Prices.{front_price}
use Rattle.query_shown.specs.Heads.{no_ride}
use Rattle.query_shown.specs.Turns.{tried_all, Sized}
use Rattle.query_shown.proofs.rides.choose.Given as goal

abbrev pub invariant-loop-k : goal.invariant-loop-k
invariant-loop-k l = (l.k ≤ 65536)
    × (l.end < 65536)
    × (l.end ≤ length l.lines)
    × Inside l.lines l.rest
    × Sized l.best
    × (tried_all l.first (front_price l.first l.way l.at.arrive) l.z l.at.left.0 (tells_of no_ride)
    (near_read l.lines l.from l.at.arrive l.to)
    ≡ tried_all l.first (front_price l.first l.way l.at.arrive) l.z l.at.left.0 l.best
    (near_calls l.lines l.at.arrive (calls_in l.lines (piece.from l.k l.end)) (calls_in l.lines l.rest)))

abbrev pub decreases-loop-k : goal.decreases-loop-k
decreases-loop-k l = l.end - l.k
