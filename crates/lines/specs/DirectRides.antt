-- The direct query. Document 01: "Is there a feasible connection, with a stored pattern (a single ride, in a direct
-- query)?" Its rows are those of the list of all single rides. The first trips of the lines are enough for their costs.
use Rattle.std.specs.Prelude.{Bool, ◌&&◌, List, [], map, ℕ, leb, eqb, length, get_or}
use Rattle.timetable.specs.Timetable.{Trip, Timetable}
use Rattle.lists.specs.Lists.{filter, first_of, concat_map, range}
use Rattle.connections.specs.Rides.{no_stop, ride_in, may_ride}
use Rattle.connections.specs.Connections.{Net, Connection, direct}
use Rattle.connections.specs.Planner.{boardable, rows_of}
use Rattle.lines.specs.Lines.{lines, course, station_on}

-- every single ride for the query
unfoldable pub directs : Net → (a t b : ℕ) → List Connection
directs n a t b = map direct (filter (λ r. boardable a t r && eqb r.to b) n.rides)

-- the rows of a direct query: "The ride shown is chosen by the rule above among all direct rides of that cost, a later
-- trip of the same line included."
unfoldable pub direct_rows : Net → (a t b : ℕ) → List (List ℕ)
direct_rows n a t b = rows_of t (directs n a t b)

-- "A direct query takes, for each position of A before one of B, the first trip of the line that leaves at or after the
-- minute": the trip at place z leaves its stop at place x at minute u or later
abbrev pub in_time : List Trip → (u x z : ℕ) → Bool
in_time t u x z = leb u (get_or (get_or t z []) x no_stop).depart

-- the first trip of line l, from place x to place y
abbrev pub first_to : Timetable → (u : ℕ) (l : List ℕ) (x y : ℕ) → List Connection
first_to t u l x y =
    map (λ z. direct (ride_in t z x y)) (first_of (in_time t.trips u x) l)

-- from place x to each later place of b; the trips of a line agree in where one may ride
abbrev pub first_from : Timetable → (u b : ℕ) (l : List ℕ) (x : ℕ) → List Connection
first_from t u b l x =
    concat_map
    (first_to t u l x)
    (filter (λ y. may_ride (course t.trips l) x y && eqb (station_on t.trips l y) b)
    (range 0 (length (course t.trips l))))

-- from each place of a on line l
abbrev pub first_on : Timetable → (a u b : ℕ) (l : List ℕ) → List Connection
first_on t a u b l =
    concat_map (first_from t u b l) (filter (λ x. eqb (station_on t.trips l x) a)
    (range 0 (length (course t.trips l))))

-- on all lines
unfoldable pub first_rides : Timetable → (a u b : ℕ) → List Connection
first_rides t a u b = concat_map (first_on t a u b) (lines t.trips)
