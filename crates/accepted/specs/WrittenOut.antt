-- Lines written out from a timetable: a line for each station, for each walk, and for each stop of a trip.
-- "Station: `S,station,change minutes,change penalty`", "Lines `W,from,to,minutes,penalty` follow the S lines", "Stop:
-- `T,trip,stop,station,arrive,depart,ride penalty`", "Each T line gains a last field".
-- "Exports write arrive and depart as `hh:mm`".
-- "Arrive is empty exactly at stop 1. Depart and ride penalty are empty together, only at a trip's last stop".
use Rattle.std.specs.Prelude.{Bool, true, false, cond, List, [], ◌∷◌, ◌++◌, map, ℕ, ◌+◌, eqb}
use Rattle.timetable.specs.Timetable.{Station, Walk, Stop, Trip}
use Rattle.accepted.specs.Marks.{lined, fielded}
use Rattle.accepted.specs.Digits.{digits}
use Rattle.accepted.specs.Clock.{clock}

-- S is byte 83, W byte 87, T byte 84, the comma byte 44
abbrev pub station_fields : ℕ → Station → List (List ℕ)
station_fields n s = digits n ∷ digits s.minutes ∷ digits s.points ∷ []

unfoldable pub station_line : ℕ → Station → List ℕ
station_line n s = 83 ∷ 44 ∷ fielded (station_fields n s)

abbrev pub walk_fields : Walk → List (List ℕ)
walk_fields w = digits w.from ∷ digits w.to ∷ digits w.minutes ∷ digits w.points ∷ []

unfoldable pub walk_line : Walk → List ℕ
walk_line w = 87 ∷ 44 ∷ fielded (walk_fields w)

-- a field that may be empty
abbrev pub empty_or : Bool → List ℕ → List ℕ
empty_or empty field = cond empty [] field

abbrev pub stop_fields : (trip k : ℕ) → Stop → (last : Bool) → List (List ℕ)
stop_fields trip k s last =
    digits trip
    ∷ digits k
    ∷ digits s.station
    ∷ empty_or (eqb k 1) (clock s.arrive)
    ∷ empty_or last (clock s.depart)
    ∷ empty_or last (digits s.points)
    ∷ digits s.mark
    ∷ []

-- stop k of a trip
unfoldable pub stop_line : (trip k : ℕ) → Stop → (last : Bool) → List ℕ
stop_line trip k s last = 84 ∷ 44 ∷ fielded (stop_fields trip k s last)

-- the lines of stations, the first of which has number n
unfoldable pub station_lines : ℕ → List Station → List (List ℕ)
station_lines n [] = []
station_lines n (s ∷ l) = station_line n s ∷ station_lines (n + 1) l

-- no stop comes after
abbrev pub none_after : List Stop → Bool
none_after [] = true
none_after (s ∷ l) = false

-- the lines of a trip's stops, the first of which has number k
unfoldable pub stop_lines : (trip k : ℕ) → List Stop → List (List ℕ)
stop_lines trip k [] = []
stop_lines trip k (s ∷ l) = stop_line trip k s (none_after l) ∷ stop_lines trip (k + 1) l

-- the lines of a timetable in which no trip runs: those of its stations, and then those of its walks
abbrev pub net_lines : List Station → List Walk → List (List ℕ)
net_lines stations walks = station_lines 1 stations ++ map walk_line walks

-- "Each line ends with byte 10": the text of stations and walks alone, and that of an extra trip of number n
unfoldable pub net_text : List Station → List Walk → List ℕ
net_text stations walks = lined (net_lines stations walks)

unfoldable pub trip_text : (n : ℕ) → Trip → List ℕ
trip_text n t = lined (stop_lines n 1 t)
