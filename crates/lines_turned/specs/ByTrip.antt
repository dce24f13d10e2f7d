-- The other layout of line tables. Document 02, Twelve: "let each line hold its times by stop, then by trip; every
-- other call takes this layout. Two calls .. translate it to times by trip, then by stop, and back". Only the order of
-- the times of a line differs (`line_times` of lines_tables has them by stop, then by trip), and so where each is
-- looked up.
use Rattle.std.specs.Prelude.{List, ◌∷◌, [], ◌++◌, map, ℕ, ◌+◌, ◌*◌, leb, length, get_or}
use Rattle.lists.specs.Lists.{concat_map, range}
use Rattle.timetable.specs.Timetable.{Trip, Timetable, number_of}
use Rattle.lines.specs.Lines.{lines, course}
use Rattle.lines_tables.specs.Tables.{stop_of, course_words, line_places, call_places, all_call_pairs, index_place}
use Rattle.lines_lookup.specs.Lookup.{Line, course_place}
use Rattle.lists.specs.First.{first_from}

-- arrival and departure of the trip at a place among the trips, stop by stop, at so many stops
unfoldable pub trip_times : List Trip → (stops trip : ℕ) → List ℕ
trip_times trips stops trip =
    concat_map
    (λ place. (stop_of trips trip place).arrive ∷ (stop_of trips trip place).depart ∷ [])
    (range 0 stops)

-- times by trip, then by stop
unfoldable pub times_by_trip : List Trip → (line : List ℕ) → List ℕ
times_by_trip trips line = concat_map (trip_times trips (length (course trips line))) line

-- all words of one line: positions, trips, the trips' numbers, the course, the times
unfoldable pub line_by_trip : Timetable → (line : List ℕ) → List ℕ
line_by_trip timetable line =
    length (course timetable.trips line)
    ∷ length line
    ∷ (map (number_of timetable) line
    ++ course_words (course timetable.trips line)
    ++ times_by_trip timetable.trips line)

-- the line tables of a timetable, times by trip; the places of lines and lists are the same in both layouts
unfoldable pub words_by_trip : Timetable → List ℕ
words_by_trip timetable =
    length timetable.stations
    ∷ length (lines timetable.trips)
    ∷ length timetable.trips
    ∷ index_place timetable
    ∷ (line_places timetable (4 + length (lines timetable.trips)) (lines timetable.trips)
    ++ concat_map (line_by_trip timetable) (lines timetable.trips)
    ++ call_places timetable.trips (index_place timetable + length timetable.stations + 1) 1
    (length timetable.stations)
    ++ all_call_pairs timetable.trips 1 (length timetable.stations))

-- ---- looking up: where the times of the trip at a place among the line's trips begin, and its arrival and departure
-- at a place of the line
abbrev pub trip_place : Line → (trip : ℕ) → ℕ
trip_place line trip = course_place line + 3 * line.positions + trip * (2 * line.positions)

unfoldable pub arrive_by_trip : (other : List ℕ) → Line → (place trip : ℕ) → ℕ
arrive_by_trip other line place trip = get_or other (trip_place line trip + 2 * place) 0

unfoldable pub depart_by_trip : (other : List ℕ) → Line → (place trip : ℕ) → ℕ
depart_by_trip other line place trip = get_or other (trip_place line trip + 2 * place + 1) 0

-- "the first trip of the line that leaves at or after the minute"
abbrev pub first_by_trip : (other : List ℕ) → Line → (place minute : ℕ) → ℕ
first_by_trip other line place minute =
    first_from (λ trip. leb minute (depart_by_trip other line place trip)) 0 line.trips
