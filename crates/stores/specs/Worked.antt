-- The stores of timetable M, computed from all 2,880 minutes, and a query from a store with a sequence struck. A store
-- with ties, and what question 13 says of a few words. For a reader.
use Rattle.std.specs.Prelude.{◌≡◌, refl, true, false, List, [], ◌∷◌, ◌++◌, ℕ, zero, suc}
use Rattle.timetable.specs.Timetable.{Timetable}
use Rattle.results.specs.Results.{dominates, equal, entries, result}
use Rattle.connections.specs.Rides.{may_board, may_alight, ride_points, rides_of}
use Rattle.connections.specs.Connections.{net, changes_of}
use Rattle.connections.specs.Planner.{connections, planner_list, tie_key, rows_of}
use Rattle.timetable.specs.Worked.{variant, M, station, stop}
use Rattle.connections.specs.Worked.{one_ride}
use Rattle.stores.specs.Stored.{optimals, optimal_stations, stored}
use Rattle.stores.specs.Words.{nodes, arcs, encode, store_words, readable, well_made, kept_list, answer}

-- document 02, One: "case b reads 1,3,2,2,0,2,0,3,0,3,1"
pub case_b : store_words (net M) 1 ≡ 1 ∷ 3 ∷ 2 ∷ 2 ∷ 0 ∷ 2 ∷ 0 ∷ 3 ∷ 0 ∷ 3 ∷ 1 ∷ []
unfolding M variant rides_of may_board may_alight ride_points changes_of planner_list connections dominates
    stored store_words encode nodes arcs optimal_stations optimals
case_b = refl

pub case_c : store_words (net M) 2 ≡ 0 ∷ 1 ∷ 3 ∷ 0 ∷ []
unfolding M variant rides_of may_board may_alight ride_points changes_of planner_list connections dominates
    stored store_words encode nodes arcs optimal_stations optimals
case_c = refl

pub case_d : store_words (net M) 3 ≡ 0 ∷ 0 ∷ []
unfolding M variant rides_of may_board may_alight ride_points changes_of planner_list connections dominates
    stored store_words encode nodes arcs optimal_stations optimals
case_d = refl

pub case_i : store_words (net (variant 4 520)) 1 ≡ 0 ∷ 2 ∷ 2 ∷ 0 ∷ 3 ∷ 0 ∷ []
unfolding variant rides_of may_board may_alight ride_points changes_of planner_list connections dominates
    stored store_words encode nodes arcs optimal_stations optimals
case_i = refl

pub case_j : answer (net M) (0 ∷ 1 ∷ 3 ∷ 0 ∷ []) 1 470 3 ≡ one_ride 90 0 1 1 3 ∷ []
unfolding M variant rides_of may_board may_alight ride_points changes_of planner_list connections entries result
    dominates
    equal rows_of tie_key answer kept_list readable
case_j = refl

-- Two ways to station 4 of one cost, by station 2 and by station 3: both are stored.
unfoldable pub forked : Timetable
forked =
    record {
      stations = station 0 1 ∷ station 0 1 ∷ station 0 1 ∷ station 0 1 ∷ [];
      walks = [];
      numbers = 1 ∷ 2 ∷ 3 ∷ 4 ∷ [];
      trips =
          (stop 1 0 480 0 ∷ stop 2 490 0 0 ∷ [])
          ∷ (stop 1 0 480 0 ∷ stop 3 490 0 0 ∷ [])
          ∷ (stop 2 0 500 0 ∷ stop 4 510 0 0 ∷ [])
          ∷ (stop 3 0 500 0 ∷ stop 4 510 0 0 ∷ [])
          ∷ [];
    }

pub ties_stored : optimal_stations (net forked) 1 (480 ∷ []) (4 ∷ []) ≡ (2 ∷ 2 ∷ 4 ∷ []) ∷ (3 ∷ 3 ∷ 4 ∷ []) ∷ []
unfolding forked rides_of may_board may_alight ride_points changes_of planner_list connections dominates equal tie_key
    optimal_stations optimals
ties_stored = refl

-- and their words
pub ties_written : encode ((2 ∷ []) ∷ (2 ∷ 2 ∷ 4 ∷ []) ∷ (3 ∷ []) ∷ (3 ∷ 3 ∷ 4 ∷ []) ∷ [])
    ≡ 2 ∷ 4 ∷ 2 ∷ 2 ∷ 0 ∷ 3 ∷ 3 ∷ 0 ∷ 2 ∷ 0 ∷ 3 ∷ 0 ∷ 4 ∷ 1 ∷ 4 ∷ 2 ∷ []
unfolding encode nodes arcs
ties_written = refl

-- a chain of k nodes, each the child of the one before, where i are behind it
abbrev chain : (k i : ℕ) → List ℕ
chain zero i = []
chain (suc k) i = 1 ∷ 1 ∷ i ∷ chain k (suc i)

-- Question 13, for 3 stations.
pub record Judged : Type 0 where
  pub store_of_1 : well_made 3 (1 ∷ 3 ∷ 2 ∷ 2 ∷ 0 ∷ 2 ∷ 0 ∷ 3 ∷ 0 ∷ 3 ∷ 1 ∷ []) ≡ true
  -- words past a store are not judged, but all of its own must be there
  pub words_behind : well_made 3 (0 ∷ 1 ∷ 3 ∷ 0 ∷ 9 ∷ []) ≡ true
  pub word_missing : well_made 3 (0 ∷ 1 ∷ 3 ∷ []) ≡ false
  pub no_words : well_made 3 [] ≡ false
  pub station_zero : well_made 3 (0 ∷ 1 ∷ 0 ∷ 0 ∷ []) ≡ false
  pub station_unlisted : well_made 3 (0 ∷ 1 ∷ 4 ∷ 0 ∷ []) ≡ false
  pub alighted_unlisted : well_made 3 (1 ∷ 0 ∷ 4 ∷ 2 ∷ 0 ∷ []) ≡ false
  pub boarded_unlisted : well_made 3 (1 ∷ 0 ∷ 2 ∷ 4 ∷ 0 ∷ []) ≡ false
  -- the stations of a node need no walk between them
  pub no_walk : well_made 3 (1 ∷ 1 ∷ 2 ∷ 1 ∷ 0 ∷ 3 ∷ 1 ∷ []) ≡ true
  pub parent_itself : well_made 3 (1 ∷ 0 ∷ 2 ∷ 2 ∷ 1 ∷ []) ≡ false
  pub predecessor_last : well_made 3 (1 ∷ 1 ∷ 2 ∷ 2 ∷ 0 ∷ 3 ∷ 1 ∷ []) ≡ true
  pub predecessor_above : well_made 3 (0 ∷ 1 ∷ 3 ∷ 1 ∷ []) ≡ false
  pub arcs_equal : well_made 3 (0 ∷ 2 ∷ 3 ∷ 0 ∷ 3 ∷ 0 ∷ []) ≡ false
  pub arcs_falling : well_made 3 (0 ∷ 2 ∷ 3 ∷ 0 ∷ 2 ∷ 0 ∷ []) ≡ false
  -- 64 rides, and 65; a longer chain of nodes that no arc uses is no pattern
  pub rides_64 : well_made 3 (63 ∷ 1 ∷ (chain 63 0 ++ (2 ∷ 63 ∷ []))) ≡ true
  pub rides_65 : well_made 3 (64 ∷ 1 ∷ (chain 64 0 ++ (2 ∷ 64 ∷ []))) ≡ false
  pub unused_nodes : well_made 3 (64 ∷ 1 ∷ (chain 64 0 ++ (2 ∷ 0 ∷ []))) ≡ true

pub judged : Judged
unfolding well_made readable
judged =
    record {
      store_of_1 = refl;
      words_behind = refl;
      word_missing = refl;
      no_words = refl;
      station_zero = refl;
      station_unlisted = refl;
      alighted_unlisted = refl;
      boarded_unlisted = refl;
      no_walk = refl;
      parent_itself = refl;
      predecessor_last = refl;
      predecessor_above = refl;
      arcs_equal = refl;
      arcs_falling = refl;
      rides_64 = refl;
      rides_65 = refl;
      unused_nodes = refl;
    }
