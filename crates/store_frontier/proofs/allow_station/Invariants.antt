-- The arrivals up to place p are marked, and low is the least among them: one is left out alone, or what is left of
-- its minute is marked with it.
use mathlib.Core.Path.{◌≡◌}
use Prim.Native.Nat.{◌≤◌, ◌-◌}
use lib.ListN.{length}
use Rattle.store_frontier.specs.Front.{Fronting}
use Rattle.store_frontier.proofs.allow_station.Given as goal

abbrev pub invariant-loop-p : goal.invariant-loop-p
invariant-loop-p l = (l.begin ≤ l.p)
    × ((l.p ≤ l.end) × ((length l.v ≡ length l.initial.v) × Fronting l.words l.arrivals l.begin l.end l.initial.low.0
    l.initial.v l.p l.low.0 l.v))

abbrev pub decreases-loop-p : goal.decreases-loop-p
decreases-loop-p l = l.end - l.p
