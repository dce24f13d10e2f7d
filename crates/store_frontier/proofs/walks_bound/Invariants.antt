-- The most that the walks of the station up to place k allow.
use Prim.Native.Nat.{◌-◌, ◌≤◌}
use Rattle.timetable.specs.Words.{walks_to}
use Rattle.store_stops.specs.OpenWays.{WalkTo}
use Rattle.store_frontier.specs.Bounding.{Bounding}
use Rattle.store_frontier.proofs.walks_bound.Given as goal

abbrev pub invariant-loop-k : goal.invariant-loop-k
invariant-loop-k l = (walks_to l.words (l.c - 1) ≤ l.k) × (l.k ≤ l.end) × Bounding l.words l.q l.j
    (WalkTo l.words l.c l.k) l.high.0
