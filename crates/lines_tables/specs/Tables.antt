-- The words of line tables (docs/LAYOUT.md), by the lines of a timetable. Document 01: "Lines and the
-- positions on them count from 1. For each station the tables list (line, position), rising; a station met twice on a
-- line is listed twice."; "The trips of one line are handed out as the piece of the line tables that holds them".
use Rattle.std.specs.Prelude.{Bool, true, false, cond, List, [], ◌∷◌, ◌++◌, map, ℕ, zero, suc, ◌+◌, ◌*◌, ◌%◌, ◌/◌}
use Rattle.std.specs.Prelude.{length, get_or}
use Rattle.lists.specs.Lists.{concat_map, range}
use Rattle.timetable.specs.Timetable.{Stop, Trip, Timetable, number_of}
use Rattle.connections.specs.Rides.{no_stop, ride_points}
use Rattle.lines.specs.Lines.{lines, course, calls}

-- the stop at a place of the trip at a place, which count from 0
abbrev pub stop_of : List Trip → (trip place : ℕ) → Stop
stop_of trips trip place = get_or (get_or trips trip []) place no_stop

-- arrivals, or departures, of the trips of a line at a place
unfoldable pub time_row : List Trip → (departs : Bool) (place : ℕ) (line : List ℕ) → List ℕ
time_row trips departs place line =
    map (λ trip. cond departs (stop_of trips trip place).depart (stop_of trips trip place).arrive) line

-- times by stop, then by trip
unfoldable pub line_times : List Trip → (line : List ℕ) → List ℕ
line_times trips line =
    concat_map
    (λ place. time_row trips false place line ++ time_row trips true place line)
    (range 0 (length (course trips line)))

-- Document 02, Three: "keep totals from the line's first stop, two words each since one can reach 204,700, and take a
-- ride's penalty as the difference of two." The total at a place is the penalty of the ride from the first stop there.
abbrev pub total_on : Trip → (place : ℕ) → ℕ
total_on trip place = ride_points trip 0 place

-- Document 02, Two: "The mark is kept with the stop". Station and mark have one word: stations are below 128.
abbrev pub call_word : Stop → ℕ
call_word stop = stop.station + 128 * stop.mark

-- the words of a position: its station and mark, and the total there, low word first
abbrev pub position_words : (call total : ℕ) → List ℕ
position_words call total = call ∷ total % 65536 ∷ total / 65536 ∷ []

unfoldable pub course_words : Trip → List ℕ
course_words trip =
    concat_map
    (λ place. position_words (call_word (get_or trip place no_stop)) (total_on trip place))
    (range 0 (length trip))

-- all words of one line: positions, trips, the trips' numbers, the course, the times
unfoldable pub line_words : Timetable → (line : List ℕ) → List ℕ
line_words timetable line =
    length (course timetable.trips line)
    ∷ length line
    ∷ (map (number_of timetable) line
    ++ course_words (course timetable.trips line)
    ++ line_times timetable.trips line)

-- where the words of each line begin, those of the first at this index
unfoldable pub line_places : Timetable → (index : ℕ) → List (List ℕ) → List ℕ
line_places timetable index [] = []
line_places timetable index (line ∷ rest) =
    index ∷ line_places timetable (index + length (line_words timetable line)) rest

unfoldable pub all_line_words : Timetable → List (List ℕ) → List ℕ
all_line_words timetable found = concat_map (line_words timetable) found

-- (line, position) at which lines call at a station
unfoldable pub call_pairs : List Trip → (station : ℕ) → List ℕ
call_pairs trips station = concat_map (λ pair. pair) (calls trips station)

-- those of so many stations from one on, and where each station's begin, the first at this index
unfoldable pub all_call_pairs : List Trip → (station count : ℕ) → List ℕ
all_call_pairs trips station count = concat_map (call_pairs trips) (range station count)

unfoldable pub call_places : List Trip → (index station count : ℕ) → List ℕ
call_places trips index station zero = index ∷ []
call_places trips index station (suc count) =
    index ∷ call_places trips (index + length (call_pairs trips station)) (suc station) count

-- where the lists of stations begin
abbrev pub index_place : Timetable → ℕ
index_place timetable =
    4 + length (lines timetable.trips) + length (all_line_words timetable (lines timetable.trips))

-- the line tables of a timetable
unfoldable pub table_words : Timetable → List ℕ
table_words timetable =
    length timetable.stations
    ∷ length (lines timetable.trips)
    ∷ length timetable.trips
    ∷ index_place timetable
    ∷ (line_places timetable (4 + length (lines timetable.trips)) (lines timetable.trips)
    ++ all_line_words timetable (lines timetable.trips)
    ++ call_places timetable.trips (index_place timetable + length timetable.stations + 1) 1
    (length timetable.stations)
    ++ all_call_pairs timetable.trips 1 (length timetable.stations))
