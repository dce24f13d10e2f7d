-- low is the least of the words at places from p up to r.
use Prim.Native.Nat.{◌≤◌}
use Rattle.store_frontier.specs.Front.{Least}
use Rattle.store_frontier.proofs.least.Given as goal

abbrev pub invariant-loop-r : goal.invariant-loop-r
invariant-loop-r l = (l.p ≤ l.r) × ((l.r ≤ l.q) × Least l.arrivals l.v l.initial.low.0 l.p l.r l.low.0)
