-- None of the trips before place j leaves in time, so the first that does is the first from j on.
use mathlib.Core.Path.{◌≡◌}
use Prim.Native.Nat.{◌-◌}
use lib.Dec.{leb}
use Rattle.lines_lookup.specs.Lookup.{depart_at}
use Rattle.lists.specs.First.{first_from}
use Rattle.lines_lookup.specs.First.{first_trip}
use Rattle.lines_lookup.proofs.first_trip.Given as goal

abbrev pub invariant-loop-j : goal.invariant-loop-j
invariant-loop-j l =
    first_trip l.v l.l l.x l.minute ≡ first_from (λ j. leb l.minute (depart_at l.v l.l l.x j)) l.j (l.l.trips - l.j)
