-- The walks of the station up to place k have been offered.
use mathlib.Core.Path.{◌≡◌}
use Prim.Native.Nat.{◌-◌, ◌≤◌}
use lib.ListN.{length}
use Rattle.timetable.specs.Words.{walks_to}
use Rattle.store_stops.specs.OpenWays.{WalkTo}
use Rattle.store_penalties.specs.Offering.{Offering}
use Rattle.store_penalties.proofs.walk_all.Given as goal

abbrev pub invariant-loop-k : goal.invariant-loop-k
invariant-loop-k l = (walks_to l.words (l.c - 1) ≤ l.k)
    × (length l.q ≡ length l.initial.q)
    × Offering l.words l.j l.u.0 (WalkTo l.words l.c l.k) l.initial.q l.q
