-- A timetable as far as the lines of a text have come, and the questions that document 01 puts to the next line.
use Rattle.std.specs.Prelude.{Bool, true, false, cond, not, ◌&&◌, ◌||◌, List, [], ◌∷◌, ◌++◌, ℕ, ◌+◌, leb, ltb, eqb}
use Rattle.std.specs.Prelude.{length}
use Rattle.questions.specs.Question.{ask, first_no}
use Rattle.text.specs.Range.{in_range}
use Rattle.text_shapes.specs.declared.Line.{Line}
use Rattle.text_shapes.specs.declared.Line.TheVariants.{
  Station as StationIn,
  Walk as WalkIn,
  Stop as StopIn,
  Shapeless,
}
use Rattle.text_shapes.specs.declared.StationLine.{StationLine}
use Rattle.text_shapes.specs.declared.WalkLine.{WalkLine}
use Rattle.text_shapes.specs.declared.StopLine.{StopLine}
use Rattle.timetable.specs.Timetable.{Station, Walk, Stop, Trip, stops_of, walk_before}
use Rattle.timetable.specs.Timetable.{stations_most, walks_most, trips_most, stops_most}
use Rattle.reading_lines.specs.declared.Rules.{Rules as RulesStruct}

-- stations, walks and ended trips, and the stops of a trip that has begun and not ended
pub record Draft : Type 0 where
  pub stations : List Station
  pub walks : List Walk
  pub trips : List Trip
  pub begun : Trip

-- stations alone
abbrev pub opening : List Station → Draft
opening l = record { stations = l; walks = []; trips = []; begun = [] }

abbrev pub blank : Draft
blank = opening []

-- the last stop of a trip
abbrev pub final : Trip → Stop
final [] = record { station = 0; arrive = 0; depart = 0; points = 0; mark = 0 }
final (s ∷ []) = s
final (s ∷ u ∷ l) = final (u ∷ l)

-- all stops so far
abbrev pub stops_in : Draft → List Stop
stops_in d = stops_of d.trips ++ d.begun

-- ---- the questions to a station line
-- "In range? 3"
abbrev pub station_in_range : StationLine → Bool
station_in_range l = in_range 1 l.minutes && in_range 2 l.points

-- "In place: stations 1, 2, 3.. first, then trips ..? 4"; document 02, One: "Lines `W,..` follow the S lines"
abbrev pub station_in_place : Draft → StationLine → Bool
station_in_place d l =
    eqb (length d.walks) 0 && eqb (length (stops_in d)) 0 && eqb l.number (length d.stations + 1)

-- "Within the three counts? 5"
abbrev pub station_counted : Draft → Bool
station_counted d = ltb (length d.stations) stations_most

unfoldable pub station_number : Draft → StationLine → ℕ
station_number d l =
    first_no (ask 3 (station_in_range l) ∷ ask 4 (station_in_place d l) ∷ ask 5 (station_counted d) ∷ [])

-- ---- the questions to a walk line, document 02, One
-- "minutes 1 to 60, penalty 1 to 1,000"
abbrev pub walk_in_range : WalkLine → Bool
walk_in_range l = in_range 6 l.minutes && in_range 2 l.points

abbrev pub walk_of_line : WalkLine → Walk
walk_of_line l = record { from = l.from; to = l.to; minutes = l.minutes; points = l.points }

-- "strictly rising by from, then to"
abbrev pub rises_after : List Walk → Walk → Bool
rises_after [] w = true
rises_after (v ∷ []) w = walk_before v w
rises_after (v ∷ u ∷ l) w = rises_after (u ∷ l) w

-- "Lines out of place or of rising order give 4": after the S lines and before the T lines
abbrev pub walk_in_place : Draft → WalkLine → Bool
walk_in_place d l = eqb (length (stops_in d)) 0 && rises_after d.walks (walk_of_line l)

-- "at most 256", "too many 5"
abbrev pub walk_counted : Draft → Bool
walk_counted d = ltb (length d.walks) walks_most

-- "unlisted stations 6"
unfoldable pub walk_fits : Draft → WalkLine → Bool
walk_fits d l =
    leb 1 l.from
    && leb l.from (length d.stations)
    && leb 1 l.to
    && leb l.to (length d.stations)

unfoldable pub walk_number : Draft → WalkLine → ℕ
walk_number d l =
    first_no
    (ask 3 (walk_in_range l) ∷ ask 4 (walk_in_place d l) ∷ ask 5 (walk_counted d) ∷ ask 6 (walk_fits d l) ∷ [])

-- ---- the questions to a stop line
-- "In range? 3"
unfoldable pub stop_in_range : StopLine → Bool
stop_in_range l = in_range 3 l.arrive && in_range 3 l.depart && in_range 4 l.points && in_range 5 l.mark

-- "In place: .. then trips 1, 2, 3.., each with stops 1, 2, 3.. and begun only after the last trip's end? 4"
abbrev pub stop_in_place : Draft → StopLine → Bool
stop_in_place d l = eqb l.trip (length d.trips + 1) && eqb l.stop (length d.begun + 1)

-- "Within the three counts? 5"
abbrev pub stop_counted : Draft → Bool
stop_counted d = ltb (length d.trips) trips_most && ltb (length (stops_in d)) stops_most

-- "unlike the stop before, arrival after the previous departure, departure not before arrival": a trip's last stop has
-- no departure
unfoldable pub comes_after : (before : Stop) → StopLine → Bool
comes_after b l =
    not (eqb l.station b.station) && ltb b.depart l.arrive && (l.last || leb l.arrive l.depart)

-- a trip's first stop has no stop before and no arrival
abbrev pub goes_on : (begun : Trip) → StopLine → Bool
goes_on [] l = true
goes_on (s ∷ r) l = comes_after (final (s ∷ r)) l

-- "For stops: station listed, unlike the stop before, arrival after the previous departure, departure not before
-- arrival? 6"
unfoldable pub stop_fits : Draft → StopLine → Bool
stop_fits d l = leb 1 l.station && leb l.station (length d.stations) && goes_on d.begun l

unfoldable pub stop_number : Draft → StopLine → ℕ
stop_number d l =
    first_no
    (ask 3 (stop_in_range l) ∷ ask 4 (stop_in_place d l) ∷ ask 5 (stop_counted d) ∷ ask 6 (stop_fits d l) ∷ [])

-- ---- the questions to a line of an extra trip, which is read into a draft that has the stations and no trip yet
-- What lines are read: the struct of src/. Document 02, Eleven: "An extra trip comes as its number and its T lines".
abbrev pub Rules : Type 0
Rules = RulesStruct

abbrev pub text_rules : Rules
text_rules = record { extra = false; number = 0; trips = 0; stops = 0 }

-- the extra trip of number n, where so many trips and stops run
abbrev pub extra_rules : (n trips stops : ℕ) → Rules
extra_rules n trips stops = record { extra = true; number = n; trips = trips; stops = stops }

-- a station line has its ranges, and is out of place
unfoldable pub extra_station : StationLine → ℕ
extra_station l = first_no (ask 3 (station_in_range l) ∷ ask 4 false ∷ [])

-- and so has and is a walk line
unfoldable pub extra_walk : WalkLine → ℕ
extra_walk l = first_no (ask 3 (walk_in_range l) ∷ ask 4 false ∷ [])

-- "(0 in a line gives 3)"
abbrev pub extra_in_range : StopLine → Bool
extra_in_range l = leb 1 l.trip && stop_in_range l

-- "A line of another number gives 4": one trip, with stops 1, 2, 3.., and nothing after its end
abbrev pub extra_in_place : Rules → Draft → StopLine → Bool
extra_in_place r d l =
    eqb l.trip r.number && eqb (length d.trips) 0 && eqb l.stop (length d.begun + 1)

-- "the limits count running trips and stops"
abbrev pub extra_counted : Rules → Draft → Bool
extra_counted r d =
    ltb (r.trips + length d.trips) trips_most && ltb (r.stops + length (stops_in d)) stops_most

-- "read .. under 2 to 7"
unfoldable pub extra_stop : Rules → Draft → StopLine → ℕ
extra_stop r d l =
    first_no
    (ask 3 (extra_in_range l)
    ∷ ask 4 (extra_in_place r d l)
    ∷ ask 5 (extra_counted r d)
    ∷ ask 6 (stop_fits d l)
    ∷ [])

abbrev pub extra_number : Rules → Draft → Line → ℕ
extra_number r d (StationIn l) = extra_station l
extra_number r d (WalkIn l) = extra_walk l
extra_number r d (StopIn l) = extra_stop r d l
extra_number r d Shapeless = 2

-- ---- the questions to a line
-- "Then for each line: is it of a shape above? 2", and the questions to its shape; 0 where all have a yes
abbrev pub line_number : Draft → Line → ℕ
line_number d (StationIn l) = station_number d l
line_number d (WalkIn l) = walk_number d l
line_number d (StopIn l) = stop_number d l
line_number d Shapeless = 2

-- those of a text, or of an extra trip
abbrev pub number_under : Rules → Draft → Line → ℕ
number_under r d line = cond r.extra (extra_number r d line) (line_number d line)

abbrev pub station_of_line : StationLine → Station
station_of_line l = record { minutes = l.minutes; points = l.points }

abbrev pub stop_of_line : StopLine → Stop
stop_of_line l =
    record { station = l.station; arrive = l.arrive; depart = l.depart; points = l.points; mark = l.mark }

-- a stop more; an empty depart ends the trip
abbrev pub with_stop : Draft → Stop → (last : Bool) → Draft
with_stop d s true =
    record {
      stations = d.stations;
      walks = d.walks;
      trips = d.trips ++ ((d.begun ++ (s ∷ [])) ∷ []);
      begun = [];
    }
with_stop d s false =
    record { stations = d.stations; walks = d.walks; trips = d.trips; begun = d.begun ++ (s ∷ []) }

-- the draft with a line more
abbrev pub with_line : Draft → Line → Draft
with_line d (StationIn l) =
    record {
      stations = d.stations ++ (station_of_line l ∷ []);
      walks = d.walks;
      trips = d.trips;
      begun = d.begun;
    }
with_line d (WalkIn l) =
    record { stations = d.stations; walks = d.walks ++ (walk_of_line l ∷ []); trips = d.trips; begun = d.begun }
with_line d (StopIn l) = with_stop d (stop_of_line l) l.last
with_line d Shapeless = d
