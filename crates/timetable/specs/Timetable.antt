-- The abstract timetable: stations, walks, trips and their stops. All later work speaks of this, never of words or
-- bytes. Document 01: "Station: `S,station,change minutes,change penalty`", "Stop: `T,trip,stop,station,arrive,depart,
-- ride penalty`"; document 02, One: "Lines `W,from,to,minutes,penalty`", Two: "The mark is kept with the stop".
-- Stations and the stops of a trip are numbered from 1, by their places in the lists; a trip has a number of its own,
-- and trips stand in rising number. Penalties are counted in points. A field that is empty in the text is 0 here:
-- arrive at a trip's first stop, depart and points at its last.
use Rattle.std.specs.Prelude.{Bool, true, false, not, ◌&&◌, ◌||◌, List, [], ◌∷◌, ◌++◌, ℕ, leb, ltb, eqb, length, get_or}
use Rattle.timetable.specs.declared.Station.{Station as StationStruct}
use Rattle.timetable.specs.declared.Stop.{Stop as StopStruct}
use Rattle.timetable.specs.declared.Walk.{Walk as WalkStruct}

-- a station's change minutes and change penalty, a walk, and a stop: the structs of src/
abbrev pub Station : Type 0
Station = StationStruct

abbrev pub Walk : Type 0
Walk = WalkStruct

abbrev pub Stop : Type 0
Stop = StopStruct

abbrev pub Trip : Type 0
Trip = List Stop

pub record Timetable : Type 0 where
  pub stations : List Station
  pub walks : List Walk
  pub numbers : List ℕ
  pub trips : List Trip

-- the number of the trip at place z
abbrev pub number_of : Timetable → (z : ℕ) → ℕ
number_of t z = get_or t.numbers z 0

-- "At most 64 stations, 256 trips, 2,048 stops in all"
abbrev pub stations_most : ℕ
stations_most = 64

abbrev pub trips_most : ℕ
trips_most = 256

abbrev pub stops_most : ℕ
stops_most = 2048

-- document 02, One: "at most 256"
abbrev pub walks_most : ℕ
walks_most = 256

-- "times 0 to 2,879 (minutes from midnight, two days)"
abbrev pub last_minute : ℕ
last_minute = 2879

-- all stops, trip by trip
abbrev pub stops_of : List Trip → List Stop
stops_of [] = []
stops_of (t ∷ l) = t ++ stops_of l

-- "change minutes 0 to 240, change penalty 1 to 1,000"
unfoldable pub valid_station : Station → Bool
valid_station s = leb s.minutes 240 && leb 1 s.points && leb s.points 1000

-- "minutes 1 to 60, penalty 1 to 1,000", "unlisted stations 6", of n stations
unfoldable pub valid_walk : ℕ → Walk → Bool
valid_walk n w =
    leb 1 w.from
    && leb w.from n
    && leb 1 w.to
    && leb w.to n
    && leb 1 w.minutes
    && leb w.minutes 60
    && leb 1 w.points
    && leb w.points 1000

-- "strictly rising by from, then to"
unfoldable pub walk_before : Walk → Walk → Bool
walk_before w v = ltb w.from v.from || (eqb w.from v.from && ltb w.to v.to)

unfoldable pub valid_walks : ℕ → List Walk → Bool
valid_walks n [] = true
valid_walks n (w ∷ []) = valid_walk n w
valid_walks n (w ∷ v ∷ l) = valid_walk n w && walk_before w v && valid_walks n (v ∷ l)

-- the stop's station is listed, of n stations
unfoldable pub listed : ℕ → Stop → Bool
listed n s = leb 1 s.station && leb s.station n

-- "0 both, 1 boarding only, 2 setting down only, any other number 3"
abbrev pub marked : Stop → Bool
marked s = leb s.mark 2

-- a stop that the trip leaves again: "times 0 to 2,879", "ride penalty 0 to 100"
unfoldable pub leaves : Stop → Bool
leaves s = leb s.depart last_minute && leb s.points 100 && marked s

-- a stop that ends its trip: depart and ride penalty are empty
unfoldable pub ends : Stop → Bool
ends s = eqb s.depart 0 && eqb s.points 0 && marked s

-- stop s comes after stop b: "station listed, unlike the stop before, arrival after the previous departure"
unfoldable pub follows : ℕ → Stop → Stop → Bool
follows n b s =
    listed n s && not (eqb s.station b.station) && ltb b.depart s.arrive && leb s.arrive last_minute

-- the stops after stop b, to the trip's end: "departure not before arrival"
unfoldable pub runs : ℕ → Stop → List Stop → Bool
runs n b [] = false
runs n b (s ∷ []) = follows n b s && ends s
runs n b (s ∷ u ∷ l) = follows n b s && leb s.arrive s.depart && leaves s && runs n s (u ∷ l)

-- a trip of a timetable of n stations: "Arrive is empty exactly at stop 1", depart "never at stop 1"
unfoldable pub valid_trip : ℕ → Trip → Bool
valid_trip n [] = false
valid_trip n (b ∷ l) = listed n b && eqb b.arrive 0 && leaves b && runs n b l

unfoldable pub valid_stations : List Station → Bool
valid_stations [] = true
valid_stations (s ∷ l) = valid_station s && valid_stations l

unfoldable pub valid_trips : ℕ → List Trip → Bool
valid_trips n [] = true
valid_trips n (t ∷ l) = valid_trip n t && valid_trips n l

-- within the counts, and at least one station
unfoldable pub counted : Timetable → Bool
counted t =
    leb 1 (length t.stations)
    && leb (length t.stations) stations_most
    && leb (length t.walks) walks_most
    && leb (length t.trips) trips_most
    && leb (length (stops_of t.trips)) stops_most

-- "Trip numbers may have gaps and go to 9,999"
abbrev pub number_most : ℕ
number_most = 9999

-- numbers of trips above a, rising
unfoldable pub climb : (a : ℕ) → List ℕ → Bool
climb a [] = true
climb a (n ∷ l) = ltb a n && leb n number_most && climb n l

-- each trip has a number, from 1 on and rising
unfoldable pub numbered : Timetable → Bool
numbered t = eqb (length t.numbers) (length t.trips) && climb 0 t.numbers

-- A timetable that reading an accepted text, and then cancelling and adding trips, can lead to.
unfoldable pub valid : Timetable → Bool
valid t =
    counted t
    && numbered t
    && valid_stations t.stations
    && valid_walks (length t.stations) t.walks
    && valid_trips (length t.stations) t.trips
