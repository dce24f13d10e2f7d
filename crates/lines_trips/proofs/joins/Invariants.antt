-- Two trips compare as what is left of them does, for all stops before agree.
use mathlib.Core.Path.{◌≡◌}
use Prim.Native.Nat.{◌+◌}
use Rattle.timetable.specs.Words.{trip_at}
use Rattle.lines.specs.Lines.{behind}
use Rattle.lines_trips.proofs.TripLaws.{rest_behind}
use Rattle.lines_trips.proofs.joins.Given as goal

abbrev pub invariant-loop-k : goal.invariant-loop-k
invariant-loop-k l =
    behind (trip_at l.words l.a) (trip_at l.words l.b)
    ≡ rest_behind l.words (l.front.first + l.k) l.front.end (l.back.first + l.k) l.back.end
