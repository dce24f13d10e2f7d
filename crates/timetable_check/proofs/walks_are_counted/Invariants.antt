-- The counts before station y are right, so that all are exactly if those from y on are.
use mathlib.Core.Path.{◌≡◌}
use Prim.Native.Nat.{◌+◌}
use Rattle.timetable.specs.Check.{walks_at, footed_from}
use Rattle.timetable_check.proofs.walks_are_counted.Given as goal

abbrev pub invariant-loop-y : goal.invariant-loop-y
invariant-loop-y l = footed_from l.words (walks_at l.words 0 l.walks) 0 (l.stations + 1)
    ≡ footed_from l.words (walks_at l.words 0 l.walks) l.y (l.stations + 1)
