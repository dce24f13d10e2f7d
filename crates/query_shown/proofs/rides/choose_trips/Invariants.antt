-- The best ride so far, and then those on the trips that are left, make the same choice as all.
use mathlib.Core.Path.{◌≡◌}
use Prim.Native.Nat.{◌<◌}
use Rattle.query_places.specs.Places.{reach_at}
use Rattle.query_places.specs.Turns.{trips_from}
use Rattle.query_shown.specs.Prices.{front_price}
use Rattle.query_shown.specs.Turns.{tried_all, Sized}
use Rattle.query_shown.proofs.rides.choose_trips.Given as goal

abbrev pub invariant-loop-j : goal.invariant-loop-j
invariant-loop-j l = (l.g.line.trips < 65536)
    × Sized l.best
    × (tried_all l.first (front_price l.first l.way l.at.arrive) l.z l.left.0 l.initial.best
    (trips_from l.lines l.g.line l.g.call.place l.start (reach_at l.to))
    ≡ tried_all l.first (front_price l.first l.way l.at.arrive) l.z l.left.0 l.best
    (trips_from l.lines l.g.line l.g.call.place l.j (reach_at l.to)))
