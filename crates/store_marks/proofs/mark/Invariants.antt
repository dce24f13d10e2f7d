-- The rides from the departures from place k on, done to the flags as they are, come to all rides.
use mathlib.Core.Path.{◌≡◌}
use Prim.Native.Nat.{◌≤◌}
use lib.ListN.{length, get_or}
use lib.Seq.{slice}
use Rattle.store_departures.specs.Order.{waiting}
use Rattle.store_marks.specs.Riding.{boardings, run, flag_arc, flag_kids}
use Rattle.store_marks.proofs.mark.Given as goal

abbrev pub invariant-loop-k : goal.invariant-loop-k
invariant-loop-k l = (get_or l.first l.c 0 ≤ l.k) × (l.k ≤ l.end) × (l.end ≤ length l.chain) × (length l.arcs ≡ 64) ×
    (length l.kids ≡ 320)
    × (run (flag_arc l.words l.allowed) (boardings l.words l.c l.x (waiting l.words l.c)) l.initial.arcs
    ≡ run (flag_arc l.words l.allowed) (boardings l.words l.c l.x (slice l.k l.end l.chain)) l.arcs)
    × (run (flag_kids l.words l.q) (boardings l.words l.c l.x (waiting l.words l.c)) l.initial.kids
    ≡ run (flag_kids l.words l.q) (boardings l.words l.c l.x (slice l.k l.end l.chain)) l.kids)
