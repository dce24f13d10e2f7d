-- The words before index k agree, so all depends on those from k on.
use mathlib.Core.Path.{◌≡◌}
use Prim.Native.Nat.{◌≤◌, ◌-◌}
use lib.ListN.{drop}
use lib.Seq.{slice}
use Rattle.lines_turned.specs.Turned.{starts}
use Rattle.lines_turned.proofs.same_part.Given as goal

abbrev pub invariant-loop-k : goal.invariant-loop-k
invariant-loop-k l = (l.from ≤ l.k) × (l.k ≤ l.end) × (starts (slice l.from l.end l.work) (drop l.from l.other) ≡ starts
    (slice l.k l.end l.work) (drop l.k l.other))
