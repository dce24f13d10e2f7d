-- Timetable M of document 01 and its queries, the places where planners slip, and walks, each as rows that are
-- computed. For a reader.
use Rattle.std.specs.Prelude.{◌≡◌, refl, List, [], ◌∷◌, ℕ, T, length, drop}
use Rattle.timetable.specs.Timetable.{Walk, Timetable, valid_station, listed, leaves, ends, follows, runs}
use Rattle.timetable.specs.Timetable.{valid_trip, valid_stations, valid_walks, valid_trips, counted, climb, numbered}
use Rattle.timetable.specs.Timetable.{valid}
use Rattle.timetable.specs.Worked.{station, stop, variant, M}
use Rattle.results.specs.Results.{dominates, equal, entries, result}
use Rattle.connections.specs.Rides.{may_board, may_alight, ride_points, rides_of}
use Rattle.connections.specs.Connections.{net, changes_of}
use Rattle.connections.specs.Planner.{connections, planner_list, tie_key, rows_of}
use Rattle.connections.specs.Platforms.{both_open, net_of_one}

-- it is accepted, so that the theorems hold of it
pub M_valid : T (valid M)
unfolding valid counted numbered climb valid_stations valid_walks valid_trips valid_trip valid_station listed leaves
    ends
    follows runs M variant
M_valid = tt

-- the planner's rows, for a query from a at minute m to b
abbrev pub planned : Timetable → (a m b : ℕ) → List (List ℕ)
planned t a m b = rows_of m (planner_list (net t) a m b)

-- a row, as it is printed: duration, penalty, number of rides, and the rides
abbrev pub one_ride : (d p trip board alight : ℕ) → List ℕ
one_ride d p t x y = d ∷ p ∷ 1 ∷ t ∷ x ∷ y ∷ []

abbrev pub two_rides : (d p trip board alight trip' board' alight' : ℕ) → List ℕ
two_rides d p t x y t' x' y' = d ∷ p ∷ 2 ∷ t ∷ x ∷ y ∷ t' ∷ x' ∷ y' ∷ []

-- Both durations are measured from 470. Trip 1 stays at station 2 for one minute, and who stays aboard needs no change
-- minutes; who arrives at 500 with 3 change minutes cannot leave at 502, and takes trip 2.
pub case_a : planned M 1 470 3 ≡ two_rides 50 10 1 1 2 2 1 2 ∷ one_ride 90 0 1 1 3 ∷ []
unfolding M variant rides_of may_board may_alight ride_points changes_of planner_list connections entries result
    dominates
    equal rows_of tie_key
case_a = refl

pub case_a_none : planner_list (net M) 1 481 3 ≡ []
unfolding M variant rides_of may_board may_alight ride_points changes_of planner_list connections
case_a_none = refl

pub case_g : planned M 2 501 3 ≡ one_ride 14 0 3 1 2 ∷ []
unfolding M variant rides_of may_board may_alight ride_points changes_of planner_list connections entries result
    dominates
    equal rows_of tie_key
case_g = refl

pub case_h : planned M 2 503 3 ≡ one_ride 17 0 2 1 2 ∷ []
unfolding M variant rides_of may_board may_alight ride_points changes_of planner_list connections entries result
    dominates
    equal rows_of tie_key
case_h = refl

-- The customer's first exercise: "the 8:00 takes twenty minutes, the 8:05 takes thirty". Whoever reaches the stop at
-- 8:03 has a way through.
unfoldable pub valley : Timetable
valley =
    record {
      stations = station 0 1 ∷ station 0 1 ∷ [];
      walks = [];
      numbers = 1 ∷ 2 ∷ [];
      trips = (stop 1 0 480 0 ∷ stop 2 500 0 0 ∷ []) ∷ (stop 1 0 485 0 ∷ stop 2 515 0 0 ∷ []) ∷ [];
    }

pub late_and_slow : planned valley 1 483 2 ≡ one_ride 32 0 2 1 2 ∷ []
unfolding valley rides_of may_board may_alight ride_points changes_of planner_list connections entries result dominates
    equal rows_of tie_key
late_and_slow = refl

-- "Of connections with equal cost the one shown departs latest."
unfoldable pub alike : Timetable
alike =
    record {
      stations = station 0 1 ∷ station 0 1 ∷ [];
      walks = [];
      numbers = 1 ∷ 2 ∷ [];
      trips = (stop 1 0 480 0 ∷ stop 2 500 0 0 ∷ []) ∷ (stop 1 0 490 0 ∷ stop 2 500 0 0 ∷ []) ∷ [];
    }

pub latest_shown : planned alike 1 470 2 ≡ one_ride 30 0 2 1 2 ∷ []
unfolding alike rides_of may_board may_alight ride_points changes_of planner_list connections entries result dominates
    equal
    rows_of tie_key
latest_shown = refl

-- "1 boarding only, 2 setting down only": trip 1 of M sets nobody down at station 2, or takes nobody
-- in there
unfoldable pub closed : (mark : ℕ) → Timetable
unfolding M variant
closed m =
    record {
      stations = M.stations;
      walks = M.walks;
      numbers = M.numbers;
      trips =
          (stop 1 0 480 0
          ∷ record { station = 2; arrive = 500; depart = 501; points = 0; mark = m }
          ∷ stop 3 560 0 0
          ∷ [])
          ∷ drop 1 M.trips;
    }

-- who may not alight at station 2 stays aboard
pub boarding_only : (planned (closed 1) 1 470 3 ≡ one_ride 90 0 1 1 3 ∷ [])
    × (planner_list (net (closed 1)) 1 470 2 ≡ [])
    × (planned (closed 1) 2 501 3 ≡ one_ride 14 0 3 1 2 ∷ [])
unfolding closed M variant rides_of may_board may_alight ride_points changes_of planner_list connections entries result
    dominates equal rows_of tie_key
boarding_only = (refl, refl, refl)

-- who may not board there finds the change of case a, and from there one ride fewer
pub setting_down_only : (planned (closed 2) 1 470 3 ≡ two_rides 50 10 1 1 2 2 1 2 ∷ one_ride 90 0 1 1 3 ∷ [])
    × (length (planner_list (net M) 2 501 3) ≡ 3)
    × (length (planner_list (net (closed 2)) 2 501 3) ≡ 2)
unfolding closed M variant rides_of may_board may_alight ride_points changes_of planner_list connections entries result
    dominates equal rows_of tie_key
setting_down_only = (refl, refl, refl)

-- Document 02, One: walks. From station 1 to 2, from there on foot to 3, and from 3 to 4.
abbrev pub walk : (from to minutes points : ℕ) → Walk
walk x y m p = record { from = x; to = y; minutes = m; points = p }

-- "The walk's minutes and penalty replace the station's": neither end's change minutes or penalty are added.
unfoldable pub on_to_three : Timetable
on_to_three =
    record {
      stations = station 0 1 ∷ station 9 50 ∷ station 9 60 ∷ station 0 1 ∷ [];
      walks = walk 2 3 5 7 ∷ [];
      numbers = 1 ∷ 2 ∷ [];
      trips = (stop 1 0 10 0 ∷ stop 2 20 0 0 ∷ []) ∷ (stop 3 0 25 2 ∷ stop 4 30 0 0 ∷ []) ∷ [];
    }

pub on_foot_lem : planned on_to_three 1 0 4 ≡ two_rides 30 9 1 1 2 2 1 2 ∷ []
unfolding on_to_three rides_of may_board may_alight ride_points changes_of planner_list connections entries result
    dominates
    equal rows_of tie_key
on_foot_lem = refl

-- A walk is one W line, and leads one way: 2 to 1 and 1 to 3 do not make 2 to 3.
unfoldable pub apart : Timetable
apart =
    record {
      stations = station 0 1 ∷ station 0 1 ∷ station 0 1 ∷ station 0 1 ∷ [];
      walks = walk 1 3 1 1 ∷ walk 2 1 1 1 ∷ [];
      numbers = 1 ∷ 2 ∷ [];
      trips = (stop 1 0 10 0 ∷ stop 2 20 0 0 ∷ []) ∷ (stop 3 0 25 2 ∷ stop 4 30 0 0 ∷ []) ∷ [];
    }

pub one_walk : planner_list (net apart) 1 0 4 ≡ []
unfolding apart rides_of may_board may_alight ride_points changes_of planner_list connections
one_walk = refl

-- Document 02, Nine: "such a W line goes first: the S values do not apply to changes there", whether they are slower
-- and cheaper, as here, where the walk takes 2 minutes,
unfoldable pub platform : (depart : ℕ) → Timetable
platform d =
    record {
      stations = station 0 1 ∷ station 5 50 ∷ station 0 1 ∷ [];
      walks = walk 2 2 2 70 ∷ [];
      numbers = 1 ∷ 2 ∷ [];
      trips = (stop 1 0 10 0 ∷ stop 2 20 0 0 ∷ []) ∷ (stop 2 0 d 0 ∷ stop 3 90 0 0 ∷ []) ∷ [];
    }

pub walk_alone : (planned (platform 22) 1 0 3 ≡ two_rides 90 70 1 1 2 2 1 2 ∷ [])
    × (planned (platform 25) 1 0 3 ≡ two_rides 90 70 1 1 2 2 1 2 ∷ [])
    × (length (planner_list (net (platform 25)) 1 0 3) ≡ 1)
unfolding platform rides_of may_board may_alight ride_points changes_of planner_list connections entries result
    dominates
    equal rows_of tie_key
walk_alone = (refl, refl, refl)

-- or quicker, as in timetable M with W,2,2,4,15: who arrives at 500 with 4 minutes to walk leaves by neither trip. What
-- request One showed at 470 stands second.
unfoldable pub along_two : Timetable
along_two = record { stations = M.stations; walks = walk 2 2 4 15 ∷ []; numbers = M.numbers; trips = M.trips }

pub changed_rows : (planned along_two 1 470 3 ≡ one_ride 90 0 1 1 3 ∷ [])
    × (rows_of 470 (planner_list (net_of_one along_two) 1 470 3) ≡ two_rides 50 10 1 1 2 2 1 2 ∷ one_ride 90 0 1 1 3 ∷
    [])
unfolding along_two M variant rides_of may_board may_alight ride_points changes_of both_open planner_list connections
    entries
    result dominates equal rows_of tie_key
changed_rows = (refl, refl)

-- "No walk stands before the first ride or after the last": who has walked to station 3 has not arrived there, and
-- rides a round from it.
unfoldable pub round_at_end : Timetable
round_at_end =
    record {
      stations = station 0 1 ∷ station 0 1 ∷ station 0 1 ∷ station 0 1 ∷ [];
      walks = walk 2 3 2 3 ∷ [];
      numbers = 1 ∷ 2 ∷ [];
      trips =
          (stop 1 0 10 0 ∷ stop 2 15 0 0 ∷ []) ∷ (stop 3 0 17 4 ∷ stop 4 20 20 0 ∷ stop 3 25 0 0 ∷ []) ∷ [];
    }

pub walked_to_target : planned round_at_end 1 0 3 ≡ two_rides 25 7 1 1 2 2 1 3 ∷ []
unfolding round_at_end rides_of may_board may_alight ride_points changes_of planner_list connections entries result
    dominates
    equal rows_of tie_key
walked_to_target = refl

-- and who would walk from station 1 rides a round to it first
unfoldable pub round_at_start : Timetable
round_at_start =
    record {
      stations = station 0 1 ∷ station 0 1 ∷ station 0 1 ∷ station 0 1 ∷ [];
      walks = walk 1 3 2 3 ∷ [];
      numbers = 1 ∷ 2 ∷ [];
      trips =
          (stop 1 0 10 0 ∷ stop 2 15 15 0 ∷ stop 1 20 0 0 ∷ []) ∷ (stop 3 0 22 0 ∷ stop 4 30 0 0 ∷ []) ∷ [];
    }

pub walked_from_source : planned round_at_start 1 0 4 ≡ two_rides 30 3 1 1 3 2 1 2 ∷ []
unfolding round_at_start rides_of may_board may_alight ride_points changes_of planner_list connections entries result
    dominates
    equal rows_of tie_key
walked_from_source = refl

-- Who alights, walks and boards the same trip again saves a ride penalty of 100.
unfoldable pub same_trip : Timetable
same_trip =
    record {
      stations = station 0 1 ∷ station 0 1 ∷ station 0 1 ∷ station 0 1 ∷ [];
      walks = walk 2 3 5 7 ∷ [];
      numbers = 1 ∷ [];
      trips = (stop 1 0 10 0 ∷ stop 2 20 21 100 ∷ stop 3 40 41 1 ∷ stop 4 50 0 0 ∷ []) ∷ [];
    }

pub boarded_again : planned same_trip 1 0 4 ≡ two_rides 50 8 1 1 2 1 3 4 ∷ []
unfolding same_trip rides_of may_board may_alight ride_points changes_of planner_list connections entries result
    dominates
    equal rows_of tie_key
boarded_again = refl
