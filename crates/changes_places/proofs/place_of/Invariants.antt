-- The trips before k have lower numbers, so that the place is k or behind.
use mathlib.Core.Path.{◌≡◌}
use Prim.Native.Nat.{◌≤◌, ◌+◌, ◌-◌}
use Rattle.timetable.specs.Check.{numbers_at}
use Rattle.timetable.specs.Changes.{place_of}
use Rattle.changes_places.proofs.place_of.Given as goal

abbrev pub invariant-loop-k : goal.invariant-loop-k
invariant-loop-k l = (l.k ≤ l.trips) × (place_of l.number (numbers_at l.words 0 l.trips) ≡ l.k + place_of l.number
    (numbers_at l.words l.k l.trips))
