-- What is left from the index where the search begins is what is left from the index where it stands: the calls between
-- are of the line, and closed.
use mathlib.Core.Path.{◌≡◌}
use Prim.Native.Nat.{◌≤◌, ◌-◌}
use Rattle.query_places.specs.Places.{rest}
use Rattle.query_places.proofs.seek_place.Given as goal

abbrev pub invariant-loop-k : goal.invariant-loop-k
invariant-loop-k l = (l.k ≤ 65536) × (rest l.v l.g l.g.rest.from ≡ rest l.v l.g l.k)

abbrev pub decreases-loop-k : goal.decreases-loop-k
decreases-loop-k l = l.end - l.k
