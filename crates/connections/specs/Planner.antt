-- The planner's list and its result. Document 01: "The list holds every feasible connection for A at t to B, worked out
-- from the timetable alone: no line table and no row enters into it."
use Rattle.std.specs.Prelude.{◌≡◌, refl, Bool, ◌&&◌, List, [], ◌∷◌, map, ℕ, zero, suc, ◌-◌, leb, eqb}
use Rattle.timetable.specs.Timetable.{last_minute}
use Rattle.lists.specs.Lists.{keep, filter, concat_map, tail}
use Rattle.results.specs.Results.{Measure, row, result}
use Rattle.connections.specs.Rides.{Ride}
use Rattle.connections.specs.Connections.{
  Change,
  Net,
  Connection,
  direct,
  onward,
  ready,
  departure,
  duration,
  penalty,
  cost,
}

abbrev pub boardable : (a t : ℕ) → Ride → Bool
boardable a t r = eqb r.from a && leb t r.depart

abbrev pub changeable : Ride → Change → Bool
changeable r w = eqb w.from r.to

-- given the connections that go on from a station at a minute: those that begin with ride r and change by w
abbrev pub after_change : (on : (x u : ℕ) → List Connection) → Ride → Change → List Connection
after_change on r w = map (onward r w) (on w.to (ready r w))

-- those that begin with ride r and change
abbrev pub after_ride : Net → (on : (x u : ℕ) → List Connection) → Ride → List Connection
after_ride n on r = concat_map (after_change on r) (filter (changeable r) n.changes)

-- and those that begin with ride r, or are that ride alone
abbrev pub by_ride : Net → (b : ℕ) (on : (x u : ℕ) → List Connection) → Ride → List Connection
by_ride n b on r = keep (eqb r.to b) (direct r) (after_ride n on r)

-- every feasible connection of at most k rides
unfoldable pub connections : Net → (k a t b : ℕ) → List Connection
connections n zero a t b = []
connections n (suc k) a t b =
    concat_map (by_ride n b (λ x u. connections n k x u b)) (filter (boardable a t) n.rides)

-- Each ride takes a minute at least, so no connection has more rides than there are minutes.
abbrev pub most_rides : ℕ
most_rides = suc last_minute

unfoldable pub planner_list : Net → (a t b : ℕ) → List Connection
planner_list n a t b = connections n most_rides a t b

abbrev pub ride_count : Connection → ℕ
ride_count (direct r) = 1
ride_count (onward r w c) = suc (ride_count c)

-- "rides (trip, boarding stop, alighting stop)"
abbrev pub numbers : Connection → List ℕ
numbers (direct r) = r.trip ∷ r.board ∷ r.alight ∷ []
numbers (onward r w c) = r.trip ∷ r.board ∷ r.alight ∷ numbers c

-- "Of connections with equal cost the one shown departs latest. Then it has fewest rides. Then its rides (trip,
-- boarding stop, alighting stop) come first, compared number by number."
unfoldable pub tie_key : Connection → List ℕ
tie_key c = (last_minute - departure c) ∷ ride_count c ∷ numbers c

-- "rows in rising duration: duration, penalty, number of rides, then trip, boarding stop, alighting stop per ride"
abbrev pub measure : ℕ → Measure Connection
measure t = record { cost = cost t; key = tie_key; tells = λ x k. x.minutes ∷ x.points ∷ tail k }

pub row_says : (t : ℕ) (c : Connection) → row (measure t) c ≡ duration t c ∷ penalty c ∷ ride_count c ∷ numbers c
unfolding tie_key
row_says t c = refl

-- the rows of a list of connections, for a query at minute t
unfoldable pub rows_of : ℕ → List Connection → List (List ℕ)
rows_of t l = result (measure t) l
