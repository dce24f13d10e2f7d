-- What is left to set at the departures from place k on comes to what was to be set at all of them.
use mathlib.Core.Path.{◌≡◌}
use Prim.Native.Nat.{◌≤◌}
use lib.ListN.{length}
use lib.Seq.{slice}
use Rattle.store_stops.specs.Stopwise.{unreached}
use Rattle.store_marks.specs.Arrays.{fill}
use Rattle.store_marks.proofs.clear.Given as goal

abbrev pub invariant-loop-k : goal.invariant-loop-k
invariant-loop-k l = (l.begin ≤ l.k) × (l.k ≤ l.end) × (length l.x ≡ length l.initial.x)
    × (fill (λ g. unreached) (slice l.begin l.end l.chain) l.initial.x ≡ fill (λ g. unreached) (slice l.k l.end l.chain)
    l.x)
