-- The rides from the departures from place k on, done to the labels as they are, come to all rides.
use mathlib.Core.Path.{◌≡◌}
use Prim.Native.Nat.{◌≤◌}
use lib.ListN.{length, get_or}
use lib.Seq.{slice}
use Rattle.connections.specs.Connections.{on_foot}
use Rattle.store_departures.specs.Order.{waiting}
use Rattle.store_marks.specs.Riding.{rides}
use Rattle.store_marks.proofs.ride_all.Given as goal

abbrev pub invariant-loop-k : goal.invariant-loop-k
invariant-loop-k l = (get_or l.first l.c 0 ≤ l.k) × (l.k ≤ l.end) × (l.end ≤ length l.chain) × (length l.x ≡ 2048)
    × (rides l.words l.c (on_foot l.way) (waiting l.words l.c) l.initial.x ≡ rides l.words l.c (on_foot l.way)
    (slice l.k l.end l.chain) l.x)
