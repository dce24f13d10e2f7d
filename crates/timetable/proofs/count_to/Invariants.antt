-- The walks before k are counted, so that all are counted once those from k on are.
use mathlib.Core.Path.{◌≡◌}
use Prim.Native.Nat.{◌+◌, ◌≤◌}
use Rattle.timetable.specs.Words.{count_to, walk_in}
use Rattle.timetable.specs.Check.{between}
use Rattle.timetable.proofs.count_to.Given as goal

abbrev pub invariant-loop-k : goal.invariant-loop-k
invariant-loop-k l = (l.count ≤ l.k)
    × (count_to (between (walk_in l.words l.place) 0 l.walks) l.y ≡ l.count + count_to
    (between (walk_in l.words l.place) l.k l.walks) l.y)
