-- The parents of the nodes below the one at hand are no less.
use Prim.Native.Nat.{◌≤◌}
use Rattle.store_minutes.specs.Looking.{Parents}
use Rattle.store_minutes.proofs.least_parent.Given as goal

abbrev pub invariant-loop-v : goal.invariant-loop-v
invariant-loop-v l = (l.lo ≤ l.v) × (l.v ≤ l.hi) × Parents l.work l.lo l.v l.least
