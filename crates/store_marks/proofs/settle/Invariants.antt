-- What is left to fall from place k on, the least so far given, comes to what was to fall at all departures.
use mathlib.Core.Path.{◌≡◌}
use Prim.Native.Nat.{◌≤◌}
use lib.ListN.{length}
use lib.Seq.{slice}
use Rattle.store_stops.specs.Stopwise.{unreached}
use Rattle.store_marks.specs.Arrays.{fall}
use Rattle.store_marks.proofs.settle.Given as goal

abbrev pub invariant-loop-k : goal.invariant-loop-k
invariant-loop-k l = (l.begin ≤ l.k) × (l.k ≤ l.end) × (length l.x ≡ length l.initial.x)
    × (fall unreached (slice l.begin l.end l.chain) l.initial.x ≡ fall l.low.0 (slice l.k l.end l.chain) l.x)
