-- The rows, stores, lines and words of the night timetable, by computation: stores from all 2,880 minutes.
use Rattle.std.specs.Prelude.{◌≡◌, true, false, List, [], ◌∷◌, ◌++◌, ℕ, length}
use Rattle.std.proofs.Math.Path.{refl}
use Rattle.std.proofs.Common.{arith, le-leb}
use Rattle.timetable.specs.Words.{station_words, stop_words, start_words, walk_words, count_to, foot_words, words}
use Rattle.reading.specs.Reading.{Accepted, reading}
use Rattle.accepted.specs.Cases.{bytes, read_all}
use Rattle.results.specs.Results.{dominates, equal, entries, result}
use Rattle.connections.specs.Rides.{may_board, may_alight, ride_points, rides_of}
use Rattle.connections.specs.Connections.{net, changes_of}
use Rattle.connections.specs.Planner.{connections, planner_list, tie_key, rows_of}
use Rattle.connections.specs.Worked.{planned, one_ride, two_rides}
use Rattle.stores.specs.Stored.{optimals, optimal_stations, stored}
use Rattle.stores.specs.Words.{nodes, arcs, encode, store_words, readable, well_made, kept_list, answer}
use Rattle.lines.specs.Lines.{in_order, lines, line_numbers, calls}
use Rattle.lines.specs.DirectRides.{directs, direct_rows}
use Rattle.lines_tables.specs.Tables.{time_row, line_times, course_words, line_words, line_places, all_line_words}
use Rattle.lines_tables.specs.Tables.{call_pairs, all_call_pairs, call_places, table_words}
use Rattle.worked.specs.Night.{text_night, night, night_words, night_tables, three_rides}

-- ---- the text
pub night_accepted : reading text_night ≡ Accepted night 21
unfolding read_all bytes text_night night
night_accepted = refl

pub night_words_lem : words night ≡ night_words
unfolding words station_words stop_words start_words walk_words count_to foot_words night
night_words_lem = refl

-- ---- the lines
pub night_lines : line_numbers night
    ≡ (3 ∷ []) ∷ (1 ∷ []) ∷ (2 ∷ []) ∷ (4 ∷ []) ∷ (5 ∷ 6 ∷ []) ∷ []
unfolding night lines in_order
night_lines = refl

pub night_tables_lem : table_words night ≡ night_tables
unfolding
    table_words
    line_places
    all_line_words
    line_words
    course_words
    ride_points
    line_times
    time_row
    call_places
    all_call_pairs
    call_pairs
    calls
    lines
    in_order
    night
night_tables_lem = refl

-- ---- the stores
pub stored_1 : store_words (net night) 1
    ≡ 1 ∷ 4 ∷ 5 ∷ 5 ∷ 0 ∷ 3 ∷ 0 ∷ 3 ∷ 1 ∷ 4 ∷ 0 ∷ 5 ∷ 0 ∷ []
unfolding night rides_of may_board may_alight ride_points changes_of planner_list connections dominates
    stored store_words encode nodes arcs optimal_stations optimals
stored_1 = refl

pub stored_2 : store_words (net night) 2
    ≡ 6 ∷ 10 ∷ (1 ∷ 1 ∷ 0 ∷ 4 ∷ 4 ∷ 0 ∷ 5 ∷ 5 ∷ 1 ∷ 1 ∷ 1 ∷ 2 ∷ 5 ∷ 5 ∷ 2 ∷ 5 ∷ 5 ∷ 4 ∷ [])
    ++ (1 ∷ 0 ∷ 1 ∷ 2 ∷ 3 ∷ 3 ∷ 3 ∷ 4 ∷ 3 ∷ 5 ∷ 3 ∷ 6 ∷ 4 ∷ 0 ∷ 5 ∷ 1 ∷ 5 ∷ 2 ∷ 5 ∷ 4 ∷ [])
unfolding night rides_of may_board may_alight ride_points changes_of planner_list connections dominates
    stored store_words encode nodes arcs optimal_stations optimals
stored_2 = refl

pub stored_3 : store_words (net night) 3
    ≡ 0 ∷ 0 ∷ []
unfolding night rides_of may_board may_alight ride_points changes_of planner_list connections dominates
    stored store_words encode nodes arcs optimal_stations optimals
stored_3 = refl

pub stored_4 : store_words (net night) 4
    ≡ 3 ∷ 6 ∷ (1 ∷ 1 ∷ 0 ∷ 5 ∷ 5 ∷ 0 ∷ 5 ∷ 5 ∷ 1 ∷ [])
    ++ (1 ∷ 0 ∷ 3 ∷ 1 ∷ 3 ∷ 2 ∷ 3 ∷ 3 ∷ 5 ∷ 0 ∷ 5 ∷ 1 ∷ [])
unfolding night rides_of may_board may_alight ride_points changes_of planner_list connections dominates
    stored store_words encode nodes arcs optimal_stations optimals
stored_4 = refl

pub stored_5 : store_words (net night) 5
    ≡ 0 ∷ 1 ∷ 3 ∷ 0 ∷ []
unfolding night rides_of may_board may_alight ride_points changes_of planner_list connections dominates
    stored store_words encode nodes arcs optimal_stations optimals
stored_5 = refl

-- ---- the planner's rows
pub rows_4_3 : planned night 4 40 3 ≡ two_rides 30 48 1 3 4 2 2 3 ∷ []
unfolding night rides_of may_board may_alight ride_points changes_of planner_list connections entries result dominates
    equal
    rows_of tie_key
rows_4_3 = refl

pub rows_1_3 : planned night 1 40 3 ≡ one_ride 30 31 2 1 3 ∷ []
unfolding night rides_of may_board may_alight ride_points changes_of planner_list connections entries result dominates
    equal
    rows_of tie_key
rows_1_3 = refl

pub rows_2_3 : planned night 2 40 3 ≡ three_rides 30 98 3 1 2 1 1 2 2 1 3 ∷ []
unfolding night rides_of may_board may_alight ride_points changes_of planner_list connections entries result dominates
    equal
    rows_of tie_key
rows_2_3 = refl

pub rows_2_5 : planned night 2 40 5 ≡ three_rides 17 75 3 1 2 1 1 2 2 1 2 ∷ two_rides 24 69 3 1 2 1 3 4 ∷ []
unfolding night rides_of may_board may_alight ride_points changes_of planner_list connections entries result dominates
    equal
    rows_of tie_key
rows_2_5 = refl

pub rows_2_1 : planned night 2 40 1 ≡ two_rides 12 62 3 1 2 1 1 2 ∷ one_ride 14 31 3 1 3 ∷ []
unfolding night rides_of may_board may_alight ride_points changes_of planner_list connections entries result dominates
    equal
    rows_of tie_key
rows_2_1 = refl

pub rows_4_5 : planned night 4 40 5 ≡ two_rides 17 25 1 1 2 2 1 2 ∷ one_ride 24 19 1 3 4 ∷ []
unfolding night rides_of may_board may_alight ride_points changes_of planner_list connections entries result dominates
    equal
    rows_of tie_key
rows_4_5 = refl

pub rows_1_3_at_54 : planned night 1 54 3 ≡ two_rides 16 62 1 2 4 2 2 3 ∷ []
unfolding night rides_of may_board may_alight ride_points changes_of planner_list connections entries result dominates
    equal
    rows_of tie_key
rows_1_3_at_54 = refl

pub rows_5_3_at_66 : planned night 5 66 3 ≡ one_ride 4 23 2 2 3 ∷ []
unfolding night rides_of may_board may_alight ride_points changes_of planner_list connections entries result dominates
    equal
    rows_of tie_key
rows_5_3_at_66 = refl

pub none_2_3 : planner_list (net night) 2 45 3 ≡ []
unfolding night rides_of may_board may_alight ride_points changes_of planner_list connections
none_2_3 = refl

pub none_3_5 : planner_list (net night) 3 40 5 ≡ []
unfolding night rides_of may_board may_alight ride_points changes_of planner_list connections
none_3_5 = refl

-- ---- the direct rides
pub rides_5_3 : direct_rows (net night) 5 40 3 ≡ one_ride 30 17 6 1 2 ∷ []
unfolding night rides_of may_board may_alight ride_points changes_of direct_rows directs entries result dominates equal
    rows_of tie_key
rides_5_3 = refl

pub rides_1_3 : direct_rows (net night) 1 40 3 ≡ one_ride 30 31 2 1 3 ∷ []
unfolding night rides_of may_board may_alight ride_points changes_of direct_rows directs entries result dominates equal
    rows_of tie_key
rides_1_3 = refl

pub rides_4_5 : direct_rows (net night) 4 40 5 ≡ one_ride 24 19 1 3 4 ∷ []
unfolding night rides_of may_board may_alight ride_points changes_of direct_rows directs entries result dominates equal
    rows_of tie_key
rides_4_5 = refl

pub rides_4_1 : direct_rows (net night) 4 40 1 ≡ one_ride 12 12 1 1 2 ∷ one_ride 14 10 3 2 3 ∷ []
unfolding night rides_of may_board may_alight ride_points changes_of direct_rows directs entries result dominates equal
    rows_of tie_key
rides_4_1 = refl

pub no_rides_2_3 : directs (net night) 2 40 3 ≡ []
unfolding night rides_of may_board may_alight ride_points changes_of directs
no_rides_2_3 = refl

pub no_rides_1_3 : directs (net night) 1 54 3 ≡ []
unfolding night rides_of may_board may_alight ride_points changes_of directs
no_rides_1_3 = refl

-- ---- from other stores: no word behind them is read
module _ (post : List ℕ) where
  abbrev pub by_1_5 : List ℕ
  by_1_5 = 2 ∷ 1 ∷ 1 ∷ 1 ∷ 0 ∷ 5 ∷ 5 ∷ 1 ∷ 3 ∷ 2 ∷ post

  abbrev pub by_5 : List ℕ
  by_5 = 1 ∷ 1 ∷ 5 ∷ 5 ∷ 0 ∷ 3 ∷ 1 ∷ post

  pub well_by_1_5 : well_made (length night.stations) by_1_5 ≡ true
  unfolding well_made readable night
  well_by_1_5 = rw (le-leb 10 (length by_1_5) (omega arith))

  pub well_by_5 : well_made (length night.stations) by_5 ≡ true
  unfolding well_made readable night
  well_by_5 = rw (le-leb 7 (length by_5) (omega arith))

  pub kept_by_1_5 : answer (net night) by_1_5 2 40 3 ≡ three_rides 30 98 3 1 3 1 2 4 2 2 3 ∷ []
  unfolding night rides_of may_board may_alight ride_points changes_of planner_list connections entries result dominates
      equal rows_of tie_key answer kept_list readable
  kept_by_1_5 = refl

  pub none_by_1_5 : kept_list (net night) by_1_5 2 40 5 ≡ []
  unfolding night rides_of may_board may_alight ride_points changes_of planner_list connections kept_list readable
  none_by_1_5 = refl

  pub kept_by_5 : answer (net night) by_5 1 40 3 ≡ two_rides 30 31 2 1 2 5 1 2 ∷ []
  unfolding night rides_of may_board may_alight ride_points changes_of planner_list connections entries result dominates
      equal rows_of tie_key answer kept_list readable
  kept_by_5 = refl

  pub ill_6 : well_made (length night.stations) (0 ∷ 1 ∷ 6 ∷ 0 ∷ post) ≡ false
  unfolding well_made readable night
  ill_6 = rw (le-leb 4 (length (0 ∷ 1 ∷ 6 ∷ 0 ∷ post)) (omega arith))
