-- The numbers before k rise to the last of them, so that all do exactly if those from k on rise above it.
use mathlib.Core.Path.{◌≡◌}
use Prim.Native.Nat.{◌<◌}
use Rattle.timetable.specs.Timetable.{climb}
use Rattle.timetable.specs.Check.{numbers_at}
use Rattle.timetable_check.proofs.numbers_climb.Given as goal

abbrev pub invariant-loop-k : goal.invariant-loop-k
invariant-loop-k l = (l.last < 65536) × (climb 0 (numbers_at l.words 0 l.trips) ≡ climb l.last
    (numbers_at l.words l.k l.trips))
