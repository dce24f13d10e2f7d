-- The trips before k are right and end where trip k begins, so that all trips are right exactly if those from k on are.
use mathlib.Core.Path.{◌≡◌}
use Prim.Native.Nat.{◌≤◌}
use Rattle.timetable.specs.Words.{start_at}
use Rattle.timetable.specs.Check.{trips_test}
use Rattle.timetable_trips.proofs.trips_are_valid.Given as goal

abbrev pub invariant-loop-k : goal.invariant-loop-k
invariant-loop-k l = (l.first ≡ start_at l.words l.k)
    × (l.first ≤ l.stops)
    × (trips_test l.words l.n l.stops 0 0 l.trips ≡ trips_test l.words l.n l.stops l.k l.first l.trips)
