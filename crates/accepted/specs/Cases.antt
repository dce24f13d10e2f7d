-- Case k and timetable M of document 01, its "run only" cases of reading, and the edges of times, by computation. "M
-- and the cases are rewritten in it, with 47:59 and 48:00 for 2,879 and 2,880." "M's T lines each gain a 0, and its
-- cases stay." Then come marks, walks, and at the end cases of document 02, Eleven: cancelled and extra trips. For a
-- reader.
use Rattle.std.specs.Prelude.{◌≡◌, refl, List, [], ◌∷◌, ◌++◌, ℕ, zero, suc, ◌+◌, get_or, replicate}
use Prim.Native.Char.{code}
use Prim.Native.String.{String, len, char_at}
use Rattle.text.specs.Number.{digit_value, decimal, field_value}
use Rattle.text.specs.Time.{pair_value, is_time, minute_of, time_value}
use Rattle.text.specs.Piece.{pieces}
use Rattle.text.specs.Range.{in_range}
use Rattle.text_shapes.specs.Shape.{station_of, station_shape, walk_of, walk_shape, arrive_fits, depart_fits, filled}
use Rattle.text_shapes.specs.Shape.{stop_fits as stop_fits_shape, stop_of, stop_shape, shape_by}
use Rattle.timetable.specs.Worked.{station, stop, variant, M}
use Rattle.timetable.specs.Timetable.{Walk, Timetable, walk_before}
use Rattle.timetable.specs.Words.{station_words, stop_words, start_words, walk_words, count_to, foot_words, words}
use Rattle.timetable.specs.Changes.{place_of, cancelled, added}
use Rattle.reading_lines.specs.Draft.{
  station_number,
  walk_fits,
  walk_number,
  stop_in_range,
  comes_after,
  stop_fits,
  stop_number,
}
use Rattle.reading_lines.specs.Draft.{extra_station, extra_walk, extra_stop}
use Rattle.reading.specs.Reading.{Outcome, Accepted, Refused, ended, read_under, read_lines, reading}
use Rattle.reading.specs.Reading.{read_extra}
use Rattle.accepted.specs.Marks.{lined, fielded}
use Rattle.accepted.specs.Digits.{digits}
use Rattle.accepted.specs.WrittenOut.{station_line, station_lines}

-- ---- a text's bytes, and what reading makes of them
bytes_from : String → (i n : ℕ) → List ℕ
bytes_from s i zero = []
bytes_from s i (suc n) = code (char_at s i) ∷ bytes_from s (i + 1) n

unfoldable pub bytes : String → List ℕ
unfolding bytes_from
bytes s = bytes_from s 0 (len s)

-- reading, with all that it computes with
unfoldable pub read_all : List ℕ → Outcome
unfolding
    reading
    read_lines
    read_under
    ended
    pieces
    shape_by
    station_shape
    station_of
    walk_shape
    walk_of
    stop_shape
    stop_of
    stop_fits_shape
    arrive_fits
    depart_fits
    filled
    field_value
    time_value
    is_time
    minute_of
    pair_value
    decimal
    digit_value
    station_number
    walk_number
    walk_fits
    walk_before
    stop_number
    stop_in_range
    stop_fits
    comes_after
    in_range
read_all text = reading text

-- ---- case k
pub case_k : reading [] ≡ Refused 7 1
unfolding read_all
case_k = refl

-- ---- timetable M
unfoldable pub text_m : List ℕ
text_m =
    bytes "S,1,2,10\nS,2,3,10\nS,3,5,10\n"
    ++ bytes "T,1,1,1,,08:00,0,0\nT,1,2,2,08:20,08:21,0,0\nT,1,3,3,09:20,,,0\n"
    ++ bytes "T,2,1,2,,08:23,0,0\nT,2,2,3,08:40,,,0\n"
    ++ bytes "T,3,1,2,,08:22,0,0\nT,3,2,3,08:35,,,0\n"

pub M_accepted : reading text_m ≡ Accepted M 10
unfolding read_all bytes text_m M variant
M_accepted = refl

-- three stations, three trips, seven stops; stations; the stops of each trip; where the trips begin, and the end; the
-- numbers of the trips; and no walk, from no station and from stations up to each
pub M_words : words M
    ≡ (3 ∷ 3 ∷ 7 ∷ [])
    ++ (2 ∷ 10 ∷ 3 ∷ 10 ∷ 5 ∷ 10 ∷ [])
    ++ (1 ∷ 0 ∷ 480 ∷ 0 ∷ 0 ∷ 2 ∷ 500 ∷ 501 ∷ 0 ∷ 0 ∷ 3 ∷ 560 ∷ 0 ∷ 0 ∷ 0 ∷ [])
    ++ (2 ∷ 0 ∷ 503 ∷ 0 ∷ 0 ∷ 3 ∷ 520 ∷ 0 ∷ 0 ∷ 0 ∷ [])
    ++ (2 ∷ 0 ∷ 502 ∷ 0 ∷ 0 ∷ 3 ∷ 515 ∷ 0 ∷ 0 ∷ 0 ∷ [])
    ++ (0 ∷ 3 ∷ 5 ∷ 7 ∷ [])
    ++ (1 ∷ 2 ∷ 3 ∷ [])
    ++ (0 ∷ 0 ∷ 0 ∷ 0 ∷ [])
unfolding words station_words stop_words start_words walk_words count_to foot_words M variant
M_words = refl

-- ---- "Run only": time 2,879 passes, 2,880 gives 3
-- a text whose fourth line is the last stop of a trip, with the arrival given
unfoldable pub arriving_at : String → List ℕ
arriving_at arrive = bytes "S,1,2,10\nS,2,3,10\nT,1,1,1,,08:00,0,0\nT,1,2,2," ++ bytes arrive ++ bytes ",,,0\n"

pub last_minute_passes : reading (arriving_at "47:59")
    ≡ Accepted (record {
      stations = station 2 10 ∷ station 3 10 ∷ [];
      walks = [];
      numbers = 1 ∷ [];
      trips = (stop 1 0 480 0 ∷ stop 2 2879 0 0 ∷ []) ∷ [];
    }) 4
unfolding read_all bytes arriving_at
last_minute_passes = refl

-- "Minutes above 59 or hours above 47 give 3"
pub time_past_range : (reading (arriving_at "48:00") ≡ Refused 3 4)
    × (reading (arriving_at "00:60") ≡ Refused 3 4)
    × (reading (arriving_at "24:60") ≡ Refused 3 4)
    × (reading (arriving_at "99:99") ≡ Refused 3 4)
unfolding read_all bytes arriving_at
time_past_range = (refl, refl, refl, refl)

-- "another form 2"; "the plain minute is dropped there"
pub no_time : (reading (arriving_at "480") ≡ Refused 2 4)
    × (reading (arriving_at "8:20") ≡ Refused 2 4)
    × (reading (arriving_at "08:2") ≡ Refused 2 4)
    × (reading (arriving_at "008:20") ≡ Refused 2 4)
    × (reading (arriving_at "08:20:00") ≡ Refused 2 4)
    × (reading (arriving_at "0820") ≡ Refused 2 4)
    × (reading (arriving_at "08-20") ≡ Refused 2 4)
    × (reading (arriving_at ":") ≡ Refused 2 4)
    × (reading (arriving_at " 8:20") ≡ Refused 2 4)
    × (reading (arriving_at "") ≡ Refused 2 4)
unfolding read_all bytes arriving_at
no_time = (refl, refl, refl, refl, refl, refl, refl, refl, refl, refl)

-- "change penalty 0 gives 3"
pub penalty_below_range : reading (bytes "S,1,2,0\n") ≡ Refused 3 1
unfolding read_all bytes
penalty_below_range = refl

-- "arrival equal to the previous departure gives 6"
pub arrival_not_after : reading (arriving_at "08:00") ≡ Refused 6 4
unfolding read_all bytes arriving_at
arrival_not_after = refl

-- "a 65th station gives 5"
pub station_past_count : reading (lined (station_lines 1 (replicate 65 (station 2 10)))) ≡ Refused 5 65
unfolding read_all lined fielded station_lines station_line digits
station_past_count = refl

-- ---- marks: "0 both, 1 boarding only, 2 setting down only, any other number 3"
-- a text whose third line is the first stop of a trip, with the end of the line given
unfoldable pub ending : String → List ℕ
ending end = bytes "S,1,2,10\nS,2,3,10\nT,1,1,1,,08:00,0" ++ bytes end ++ bytes "\nT,1,2,2,08:20,,,0\n"

pub boarding_only : reading (ending ",1")
    ≡ Accepted (record {
      stations = station 2 10 ∷ station 3 10 ∷ [];
      walks = [];
      numbers = 1 ∷ [];
      trips = (record { station = 1; arrive = 0; depart = 480; points = 0; mark = 1 } ∷ stop 2 500 0 0 ∷ []) ∷ [];
    }) 4
unfolding read_all bytes ending
boarding_only = refl

pub mark_past_range : (reading (ending ",3") ≡ Refused 3 3) × (reading (ending ",9999") ≡ Refused 3 3)
unfolding read_all bytes ending
mark_past_range = (refl, refl)

-- "Old seven-field lines give 2", and so does a mark that is no number
pub no_mark : (reading (ending "") ≡ Refused 2 3)
    × (reading (ending ",") ≡ Refused 2 3)
    × (reading (ending ",00") ≡ Refused 2 3)
    × (reading (ending ",0,0") ≡ Refused 2 3)
unfolding read_all bytes ending
no_mark = (refl, refl, refl, refl)

-- ---- walks: "Lines `W,from,to,minutes,penalty` follow the S lines"
-- three stations, and then the lines given
unfoldable pub behind_stations : String → List ℕ
behind_stations lines = bytes "S,1,2,10\nS,2,3,10\nS,3,5,10\n" ++ bytes lines

walk : (from to minutes points : ℕ) → Walk
walk from to minutes points = record { from = from; to = to; minutes = minutes; points = points }

unfoldable pub walking : Timetable
unfolding walk
walking =
    record {
      stations = station 2 10 ∷ station 3 10 ∷ station 5 10 ∷ [];
      walks = walk 1 3 60 1000 ∷ walk 2 1 4 5 ∷ walk 2 2 1 1 ∷ [];
      numbers = [];
      trips = [];
    }

-- "strictly rising by from, then to"; "From and to may be equal"
pub walks_accepted : reading (behind_stations "W,1,3,60,1000\nW,2,1,4,5\nW,2,2,1,1\n") ≡ Accepted walking 6
unfolding read_all bytes behind_stations walking
walks_accepted = refl

-- behind the start of no trip: the walks from no station, from stations up to 1, up to 2 and up to 3; then the walks
pub walking_words_lem : words walking
    ≡ (3 ∷ 0 ∷ 0 ∷ [])
    ++ (2 ∷ 10 ∷ 3 ∷ 10 ∷ 5 ∷ 10 ∷ [])
    ++ (0 ∷ [])
    ++ (0 ∷ 1 ∷ 3 ∷ 3 ∷ [])
    ++ (1 ∷ 3 ∷ 60 ∷ 1000 ∷ 2 ∷ 1 ∷ 4 ∷ 5 ∷ 2 ∷ 2 ∷ 1 ∷ 1 ∷ [])
unfolding words station_words stop_words start_words walk_words count_to foot_words walking
walking_words_lem = refl

-- "minutes 1 to 60, penalty 1 to 1,000"
pub walk_past_range : (reading (behind_stations "W,1,2,0,5\n") ≡ Refused 3 4)
    × (reading (behind_stations "W,1,2,61,5\n") ≡ Refused 3 4)
    × (reading (behind_stations "W,1,2,5,0\n") ≡ Refused 3 4)
    × (reading (behind_stations "W,1,2,5,1001\n") ≡ Refused 3 4)
unfolding read_all bytes behind_stations
walk_past_range = (refl, refl, refl, refl)

-- "Lines out of place or of rising order give 4": the same walk again, a walk that comes earlier, a station behind a
-- walk, and a walk behind a stop
pub walk_misplaced : (reading (behind_stations "W,1,2,5,5\nW,1,2,5,5\n") ≡ Refused 4 5)
    × (reading (behind_stations "W,2,1,5,5\nW,1,3,5,5\n") ≡ Refused 4 5)
    × (reading (behind_stations "W,1,2,5,5\nS,4,2,10\n") ≡ Refused 4 5)
    × (reading (behind_stations "T,1,1,1,,08:00,0,0\nW,1,2,5,5\n") ≡ Refused 4 5)
unfolding read_all bytes behind_stations
walk_misplaced = (refl, refl, refl, refl)

-- "unlisted stations 6"
pub walk_unlisted : (reading (behind_stations "W,1,4,5,5\n") ≡ Refused 6 4)
    × (reading (behind_stations "W,0,1,5,5\n") ≡ Refused 6 4)
    × (reading (bytes "W,1,1,5,5\n") ≡ Refused 6 1)
unfolding read_all bytes behind_stations
walk_unlisted = (refl, refl, refl)

-- a walk line has five fields
pub no_walk : (reading (behind_stations "W,1,2,5\n") ≡ Refused 2 4)
    × (reading (behind_stations "W,1,2,5,5,0\n") ≡ Refused 2 4)
    × (reading (behind_stations "W,1,2,,5\n") ≡ Refused 2 4)
unfolding read_all bytes behind_stations
no_walk = (refl, refl, refl)

-- ---- cancelled and extra trips: "Trip numbers may have gaps"
pub two_cancelled : words (cancelled M 2)
    ≡ (3 ∷ 2 ∷ 5 ∷ [])
    ++ (2 ∷ 10 ∷ 3 ∷ 10 ∷ 5 ∷ 10 ∷ [])
    ++ (1 ∷ 0 ∷ 480 ∷ 0 ∷ 0 ∷ 2 ∷ 500 ∷ 501 ∷ 0 ∷ 0 ∷ 3 ∷ 560 ∷ 0 ∷ 0 ∷ 0 ∷ [])
    ++ (2 ∷ 0 ∷ 502 ∷ 0 ∷ 0 ∷ 3 ∷ 515 ∷ 0 ∷ 0 ∷ 0 ∷ [])
    ++ (0 ∷ 3 ∷ 5 ∷ [])
    ++ (1 ∷ 3 ∷ [])
    ++ (0 ∷ 0 ∷ 0 ∷ 0 ∷ [])
unfolding words station_words stop_words start_words walk_words count_to foot_words cancelled place_of M variant
two_cancelled = refl

-- added again, it has its place in rising number
pub two_added : added (cancelled M 2) 2 (get_or M.trips 1 []) ≡ M
unfolding cancelled added place_of M variant
two_added = refl

pub extra_accepted : read_extra M 9999 (bytes "T,9999,1,1,,08:05,0,0\nT,9999,2,3,08:45,,,0\n")
    ≡ Accepted (record {
      stations = M.stations;
      walks = [];
      numbers = 9999 ∷ [];
      trips = (stop 1 0 485 0 ∷ stop 3 525 0 0 ∷ []) ∷ [];
    }) 2
unfolding read_all read_extra extra_stop bytes M variant
extra_accepted = refl

-- "(0 in a line gives 3). A line of another number gives 4, no line at all 7"
pub extra_refused : (read_extra M 0 (bytes "T,0,1,1,,08:05,0,0\n") ≡ Refused 3 1)
    × (read_extra M 7 (bytes "T,8,1,1,,08:05,0,0\n") ≡ Refused 4 1)
    × (read_extra M 7 [] ≡ Refused 7 1)
unfolding read_all read_extra extra_stop bytes M variant
extra_refused = (refl, refl, refl)

-- a station, a walk, a line after the trip's end, a trip that has not ended, a number of five digits
pub extra_misplaced : (read_extra M 7 (bytes "S,4,2,10\n") ≡ Refused 4 1)
    × (read_extra M 7 (bytes "W,1,2,5,5\n") ≡ Refused 4 1)
    × (read_extra M 7 (bytes "T,7,1,1,,08:05,0,0\nT,7,2,3,08:45,,,0\nT,7,1,1,,08:05,0,0\n") ≡ Refused 4 3)
    × (read_extra M 7 (bytes "T,7,1,1,,08:05,0,0\n") ≡ Refused 7 2)
    × (read_extra M 10000 (bytes "T,10000,1,1,,08:05,0,0\n") ≡ Refused 2 1)
unfolding read_all read_extra extra_stop extra_station extra_walk bytes M variant
extra_misplaced = (refl, refl, refl, refl, refl)
