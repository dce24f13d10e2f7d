-- The words of a timetable (docs/LAYOUT.md): S, T, N; change minutes and penalty of each station; station, arrive,
-- depart, ride penalty and mark of each stop, trip by trip; the place of each trip's first stop among all stops, and N;
-- the number of each trip; how many walks there are from no station, from stations up to 1, up to 2 and so on; from,
-- to, minutes and penalty of each walk.
use Rattle.std.specs.Prelude.{Bool, cond, ◌&&◌, List, [], ◌∷◌, ◌++◌, map, ℕ, suc, ◌+◌, ◌-◌, ◌*◌, leb, eqb, length}
use Rattle.std.specs.Prelude.{get_or, take}
use Rattle.lists.specs.Lists.{range, same}
use Rattle.questions.specs.Question.{ask, first_no}
use Rattle.timetable.specs.Timetable.{Station, Walk, Stop, Trip, Timetable, stops_of, valid}

unfoldable pub station_words : List Station → List ℕ
station_words [] = []
station_words (s ∷ l) = s.minutes ∷ s.points ∷ station_words l

unfoldable pub stop_words : List Stop → List ℕ
stop_words [] = []
stop_words (s ∷ l) = s.station ∷ s.arrive ∷ s.depart ∷ s.points ∷ s.mark ∷ stop_words l

-- where each trip begins, k stops standing before the first, and where the last ends
unfoldable pub start_words : ℕ → List Trip → List ℕ
start_words k [] = k ∷ []
start_words k (t ∷ l) = k ∷ start_words (k + length t) l

unfoldable pub walk_words : List Walk → List ℕ
walk_words [] = []
walk_words (w ∷ l) = w.from ∷ w.to ∷ w.minutes ∷ w.points ∷ walk_words l

-- how many walks there are from stations up to y: those from station y stand behind those up to the station before
unfoldable pub count_to : List Walk → (y : ℕ) → ℕ
count_to [] y = 0
count_to (w ∷ l) y = cond (leb w.from y) (suc (count_to l y)) (count_to l y)

-- for no station, then up to each of n stations
unfoldable pub foot_words : (n : ℕ) → List Walk → List ℕ
foot_words n l = map (count_to l) (range 0 (suc n))

unfoldable pub words : Timetable → List ℕ
words t =
    length t.stations
    ∷ length t.trips
    ∷ length (stops_of t.trips)
    ∷ (station_words t.stations
    ++ stop_words (stops_of t.trips)
    ++ start_words 0 t.trips
    ++ t.numbers
    ++ foot_words (length t.stations) t.walks
    ++ walk_words t.walks)

-- walk k, counted from 0, of those whose words stand in a list from place p on, and the first n of them
unfoldable pub walk_in : List ℕ → (p k : ℕ) → Walk
walk_in w p k =
    record {
      from = get_or w (p + 4 * k) 0;
      to = get_or w (p + 4 * k + 1) 0;
      minutes = get_or w (p + 4 * k + 2) 0;
      points = get_or w (p + 4 * k + 3) 0;
    }

abbrev pub walks_in : List ℕ → (p n : ℕ) → List Walk
walks_in w p n = map (walk_in w p) (range 0 n)

-- the words of so many stations, trips and stops, as they are put together: those of stations and stops are the first
-- of one list, the starts and the numbers the first of two others
abbrev pub front : (stations trips stops : ℕ) (body starts numbers : List ℕ) → List ℕ
front stations trips stops body starts numbers =
    stations
    ∷ trips
    ∷ stops
    ∷ (take (2 * stations + 5 * stops) body ++ take (trips + 1) starts ++ take trips numbers)

-- and behind them what is said of so many walks, whose words are the first of a list of their own
abbrev pub joined : (stations trips stops walks : ℕ) (body starts numbers walking : List ℕ) → List ℕ
joined stations trips stops walks body starts numbers walking =
    front stations trips stops body starts numbers
    ++ foot_words stations (walks_in walking 0 walks)
    ++ take (4 * walks) walking

-- ---- the timetable that words spell
abbrev pub station_count : List ℕ → ℕ
station_count w = get_or w 0 0

abbrev pub trip_count : List ℕ → ℕ
trip_count w = get_or w 1 0

abbrev pub stop_count : List ℕ → ℕ
stop_count w = get_or w 2 0

-- station i, counted from 0
unfoldable pub station_at : List ℕ → ℕ → Station
station_at w i = record { minutes = get_or w (3 + 2 * i) 0; points = get_or w (3 + 2 * i + 1) 0 }

-- the stop whose words begin at place p
unfoldable pub stop_in : List ℕ → (p : ℕ) → Stop
stop_in w p =
    record {
      station = get_or w p 0;
      arrive = get_or w (p + 1) 0;
      depart = get_or w (p + 2) 0;
      points = get_or w (p + 3) 0;
      mark = get_or w (p + 4) 0;
    }

-- where stop i's words begin, counted from 0 over all trips
abbrev pub stop_place : List ℕ → ℕ → ℕ
stop_place w i = 3 + 2 * station_count w + 5 * i

unfoldable pub stop_at : List ℕ → ℕ → Stop
stop_at w i = stop_in w (stop_place w i)

-- the place of trip k's first stop, trips counted from 0
unfoldable pub start_at : List ℕ → ℕ → ℕ
start_at w k = get_or w (stop_place w (stop_count w) + k) 0

unfoldable pub trip_at : List ℕ → ℕ → Trip
trip_at w k = map (stop_at w) (range (start_at w k) (start_at w (k + 1) - start_at w k))

-- the number of trip k
unfoldable pub number_at : List ℕ → ℕ → ℕ
number_at w k = get_or w (stop_place w (stop_count w) + (trip_count w + 1) + k) 0

-- where what is said of walks begins
abbrev pub foot_place : List ℕ → ℕ
foot_place w = stop_place w (stop_count w) + (trip_count w + 1) + trip_count w

-- how many walks there are from stations up to y: the walks from station y are those from walks_to w (y - 1) on, to
-- before walks_to w y, counted from 0
unfoldable pub walks_to : List ℕ → ℕ → ℕ
walks_to w y = get_or w (foot_place w + y) 0

abbrev pub walk_count : List ℕ → ℕ
walk_count w = walks_to w (station_count w)

abbrev pub walk_place : List ℕ → ℕ → ℕ
walk_place w k = foot_place w + (station_count w + 1) + 4 * k

-- walk k, counted from 0
unfoldable pub walk_at : List ℕ → ℕ → Walk
walk_at w k =
    record {
      from = get_or w (walk_place w k) 0;
      to = get_or w (walk_place w k + 1) 0;
      minutes = get_or w (walk_place w k + 2) 0;
      points = get_or w (walk_place w k + 3) 0;
    }

unfoldable pub timetable_of : List ℕ → Timetable
timetable_of w =
    record {
      stations = map (station_at w) (range 0 (station_count w));
      walks = map (walk_at w) (range 0 (walk_count w));
      numbers = map (number_at w) (range 0 (trip_count w));
      trips = map (trip_at w) (range 0 (trip_count w));
    }

-- ---- question 9, as it is decided on words
-- the starts given never fall, behind start a, and end with n
unfoldable pub rise : ℕ → List ℕ → ℕ → Bool
rise a [] n = eqb a n
rise a (b ∷ l) n = leb a b && rise b l n

-- the trips begin at stop 0, each where the one before ends, and the last ends with the last stop
unfoldable pub chained : List ℕ → Bool
chained w = eqb (start_at w 0) 0 && rise 0 (map (start_at w) (range 1 (trip_count w))) (stop_count w)

-- the counts of walks by station are those of the walks
unfoldable pub footed : List ℕ → Bool
footed w = same (map (walks_to w) (range 0 (suc (station_count w))))
    (foot_words (station_count w) (timetable_of w).walks)

-- "Could the timetable words come from an accepted text? 9", where document 02, Eleven, has question 9 "admit gaps and
-- count no bytes": from a text and the changes after it. The crate accepted proves that this is what it decides.
unfoldable pub is_timetable : List ℕ → Bool
is_timetable w = chained w && valid (timetable_of w) && footed w

-- "Are the slices long enough: timetable .. 16,384 16-bit words ..? 8", and question 9; 0 where both have a yes
unfoldable pub timetable_number : List ℕ → ℕ
timetable_number w = first_no (ask 8 (leb 16384 (length w)) ∷ ask 9 (is_timetable w) ∷ [])
