-- The lines of a timetable, section 4.1 of the 2010 paper. Document 01: "Take trips by first departure, then trip
-- number. A trip joins the lowest-numbered line with the same stations and ride penalties whose last trip is nowhere
-- later than it, in any arrival or departure. Otherwise it founds the next line. Equal times may share a line."
-- Document 02, Two: "trips of a line must agree in it", the mark of each stop. Here trips, lines and positions stand at
-- places from 0; as numbers they "count from 1".
use Rattle.std.specs.Prelude.{Bool, true, false, ◌&&◌, List, [], ◌∷◌, ◌++◌, map, ℕ, suc, leb, eqb, length, get_or}
use Rattle.timetable.specs.Timetable.{Stop, Trip, Timetable, number_of}
use Rattle.lists.specs.Lists.{filter, concat_map, range, sort}
use Rattle.connections.specs.Rides.{no_stop}

-- the same station, ride penalty and mark, and s not later than u
abbrev pub stop_behind : (s u : Stop) → Bool
stop_behind s u =
    eqb s.station u.station
    && eqb s.points u.points
    && eqb s.mark u.mark
    && leb s.arrive u.arrive
    && leb s.depart u.depart

-- trip v can run behind trip u on one line
abbrev pub behind : (u v : Trip) → Bool
behind [] [] = true
behind [] (s ∷ l) = false
behind (s ∷ k) [] = false
behind (s ∷ k) (u ∷ l) = stop_behind s u && behind k l

abbrev pub last_of : List ℕ → ℕ
last_of [] = 0
last_of (x ∷ []) = x
last_of (x ∷ y ∷ l) = last_of (y ∷ l)

-- trip z joins line x, or tries the lines behind it, with what comes of that
abbrev pub enter : Bool → (z : ℕ) (x : List ℕ) (ls r : List (List ℕ)) → List (List ℕ)
enter true z x ls r = (x ++ (z ∷ [])) ∷ ls
enter false z x ls r = x ∷ r

-- trip z joins the first line that it can, or founds the next
abbrev pub add_trip : List Trip → (z : ℕ) → List (List ℕ) → List (List ℕ)
add_trip t z [] = (z ∷ []) ∷ []
add_trip t z (x ∷ ls) = enter (behind (get_or t (last_of x) []) (get_or t z [])) z x ls (add_trip t z ls)

abbrev pub add_trips : List Trip → (zs : List ℕ) → List (List ℕ) → List (List ℕ)
add_trips t [] ls = ls
add_trips t (z ∷ zs) ls = add_trips t zs (add_trip t z ls)

abbrev pub first_departure : Trip → ℕ
first_departure [] = 0
first_departure (s ∷ l) = s.depart

-- a trip's first departure, then its place: trips stand in rising number
abbrev pub trip_key : List Trip → (z : ℕ) → List ℕ
trip_key t z = first_departure (get_or t z []) ∷ z ∷ []

-- the trips in the order in which they are taken
unfoldable pub in_order : List Trip → List ℕ
in_order t = map (λ k. get_or k 1 0) (sort (map (trip_key t) (range 0 (length t))))

-- the lines, each with the places of its trips
unfoldable pub lines : List Trip → List (List ℕ)
lines t = add_trips t (in_order t) []

-- the lines with the numbers of their trips
abbrev pub line_numbers : Timetable → List (List ℕ)
line_numbers t = map (map (number_of t)) (lines t.trips)

abbrev pub head_of : List ℕ → ℕ
head_of [] = 0
head_of (z ∷ l) = z

-- where a line calls: the stops of its first trip, which has the stations, ride penalties and marks of them all
abbrev pub course : List Trip → (line : List ℕ) → Trip
course t l = get_or t (head_of l) []

abbrev pub station_on : List Trip → (line : List ℕ) (p : ℕ) → ℕ
station_on t l p = (get_or (course t l) p no_stop).station

-- the calls of the line at place i at station s: line number and position
abbrev pub line_calls : List Trip → (s i : ℕ) → List (List ℕ)
line_calls t s i =
    let l = get_or (lines t) i [] in
    map (λ p. suc i ∷ suc p ∷ []) (filter (λ p. eqb (station_on t l p) s) (range 0 (length (course t l))))

-- "For each station the tables list (line, position), rising; a station met twice on a line is listed twice."
unfoldable pub calls : List Trip → (s : ℕ) → List (List ℕ)
calls t s = concat_map (line_calls t s) (range 0 (length (lines t)))
