-- The arrivals at places from p up to r are marked; each stands there once, so the others are untouched.
use mathlib.Core.Path.{◌≡◌}
use Prim.Native.Nat.{◌≤◌}
use lib.ListN.{length}
use Rattle.store_frontier.specs.Front.{Marked}
use Rattle.store_frontier.proofs.mark_all.Given as goal

abbrev pub invariant-loop-r : goal.invariant-loop-r
invariant-loop-r l = (l.p ≤ l.r) × ((l.r ≤ l.q) × ((length l.v ≡ length l.initial.v) × Marked l.arrivals l.before.0
    l.low.0 l.p l.r l.initial.v l.v))
