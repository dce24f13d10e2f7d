-- What is kept so far, and then of the trips that are left, is what is kept of all.
use mathlib.Core.Path.{◌≡◌}
use lib.ListN.{length}
use Rattle.query_kept.specs.Keeping.{keep_all}
use Rattle.query_places.specs.Turns.{trips_from}
use Rattle.query_kept.proofs.rides.keep_trips.Given as goal

abbrev pub invariant-loop-j : goal.invariant-loop-j
invariant-loop-j l = (length l.kept ≡ 11520)
    × (keep_all l.best l.initial.kept (trips_from l.v l.l l.x l.first (record { place = l.p; points = l.points.0 }))
    ≡ keep_all l.best l.kept (trips_from l.v l.l l.x l.j (record { place = l.p; points = l.points.0 })))
