-- The walks from place k on, tried on the flags as they are, come to all walks from the station.
use mathlib.Core.Path.{◌≡◌}
use Prim.Native.Nat.{◌-◌, ◌≤◌}
use lib.ListN.{length}
use Rattle.lists.specs.Lists.{range}
use Rattle.timetable.specs.Words.{walks_to}
use Rattle.store_slots.specs.Slots.{walks_from}
use Rattle.store_marks.specs.Riding.{visit, raise_all, walk_tries}
use Rattle.store_marks.proofs.mark_walks.Given as goal

abbrev pub invariant-loop-k : goal.invariant-loop-k
invariant-loop-k l = (l.end ≡ walks_to l.words l.b) × (walks_to l.words (l.b - 1) ≤ l.k) × (length l.kids ≡ 320)
    × (raise_all (walk_tries l.words l.q (visit l.j l.y.0) (walks_from l.words l.b)) l.initial.kids
    ≡ raise_all (walk_tries l.words l.q (visit l.j l.y.0) (range l.k (l.end - l.k))) l.kids)
