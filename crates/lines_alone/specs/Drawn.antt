-- The timetable that line tables tell, the ways of changing aside: the numbers that stand on lines, rising, and for
-- each of them the trip that is found there, whose stops are read. From it question 10 is answered for tables lent
-- without a timetable: could they come from this one? Alone shows that, if they come from any, they come from this one.
use Rattle.std.specs.Prelude.{Bool, cond, ◌&&◌, List, [], ◌∷◌, map, ℕ, zero, suc, ◌+◌, ◌-◌, ◌%◌, leb, ltb, length}
use Rattle.std.specs.Prelude.{get_or, replicate}
use Rattle.lists.specs.Lists.{filter, range}
use Rattle.questions.specs.Question.{ask, first_no}
use Rattle.timetable.specs.Timetable.{Station, Stop, Trip, Timetable, number_most, valid}
use Rattle.lines_tables.specs.Building.{slices_least}
use Rattle.lines_lookup.specs.Lookup.{Line, line_count, line_at, station_at, mark_at, low_at, arrive_at, depart_at}
use Rattle.lists.specs.First.{first_from}
use Rattle.lines_check.specs.Question10.{begins}
use Rattle.lines_marks.specs.Marks.{place_on, has_trip}
use Rattle.lines_alone.specs.declared.Home.{Home as HomeStruct}

-- where a trip stands: its line, and its place among the line's trips; the struct of src/
abbrev pub Home : Type 0
Home = HomeStruct

-- nowhere: a line without positions
abbrev pub no_home : Home
no_home = record { line = record { at = 0; positions = 0; trips = 0 }; place = 0 }

-- the first line that has it
abbrev pub home_line : List ℕ → (number : ℕ) → ℕ
home_line v number = first_from (has_trip v number) 0 (line_count v)

-- some line has it
abbrev pub stands : List ℕ → (number : ℕ) → Bool
stands v number = ltb (home_line v number) (line_count v)

unfoldable pub home_of : List ℕ → (number : ℕ) → Home
home_of v number =
    cond
    (stands v number)
    (record {
      line = line_at v (home_line v number);
      place = place_on v (line_at v (home_line v number)) number;
    })
    no_home

-- the penalty of the ride from place p of a line to the next, and none from the last place: a penalty is less than a
-- word can say, so that the low words of both totals tell it
unfoldable pub next_points : List ℕ → Line → (p : ℕ) → ℕ
next_points v l p =
    cond (ltb (p + 1) l.positions) ((65536 + low_at v l (p + 1) - low_at v l p) % 65536) 0

-- the stop at place p, from which the ride on costs so many points
abbrev pub stop_with : List ℕ → Home → (p points : ℕ) → Stop
stop_with v h p points =
    record {
      station = station_at v h.line p;
      arrive = arrive_at v h.line p h.place;
      depart = depart_at v h.line p h.place;
      points = points;
      mark = mark_at v h.line p;
    }

abbrev pub stop_on : List ℕ → Home → (p : ℕ) → Stop
stop_on v h p = stop_with v h p (next_points v h.line p)

unfoldable pub trip_on : List ℕ → Home → Trip
trip_on v h = map (stop_on v h) (range 0 h.line.positions)

-- those of k numbers from a on that stand on lines
unfoldable pub numbers_from : List ℕ → (a k : ℕ) → List ℕ
numbers_from v a k = filter (stands v) (range a k)

-- Document 02, Eleven: the trips "taken in rising number", where "numbers may have gaps and go to 9,999"
unfoldable pub drawn_numbers : List ℕ → List ℕ
drawn_numbers v = numbers_from v 1 number_most

-- the trip at place z is that of the number at place z
abbrev pub drawn_trip : List ℕ → (z : ℕ) → Trip
drawn_trip v z = trip_on v (home_of v (get_or (drawn_numbers v) z 0))

-- n trips from place z on
abbrev pub drawn_trips : List ℕ → (z n : ℕ) → List Trip
drawn_trips v z n = map (drawn_trip v) (range z n)

-- change minutes 0 and change penalty 1: line tables do not tell them, nor any walk
abbrev pub plain_station : Station
plain_station = record { minutes = 0; points = 1 }

unfoldable pub drawn : List ℕ → Timetable
drawn v =
    record {
      stations = replicate (get_or v 0 0) plain_station;
      walks = [];
      numbers = drawn_numbers v;
      trips = drawn_trips v 0 (length (drawn_numbers v));
    }

-- the trips on n lines from place i on
unfoldable pub trips_from : List ℕ → (i n : ℕ) → ℕ
trips_from v i zero = 0
trips_from v i (suc n) = (line_at v i).trips + trips_from v (i + 1) n

-- counts that a timetable within the limits leads to: without them a search for trips might take long
unfoldable pub counts_fit : List ℕ → Bool
counts_fit v =
    leb (get_or v 0 0) 64 && leb (line_count v) 256 && leb (trips_from v 0 (line_count v)) 256

-- question 10 for tables lent without a timetable, as it is decided
unfoldable pub are_some : List ℕ → Bool
are_some v = counts_fit v && valid (drawn v) && begins v (drawn v)

-- "Are the slices long enough ..? 8", and question 10, for line tables v and working space of n words
unfoldable pub alone_number : (v : List ℕ) (n : ℕ) → ℕ
alone_number v n = first_no (ask 8 (leb slices_least (length v) && leb slices_least n) ∷ ask 10 (are_some v) ∷ [])
