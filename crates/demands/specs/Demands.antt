-- The customer's demands 2 and 3 as statements about a timetable, at the level of definitions. What the calls will
-- promise is said with the same words; Proofs shows that every accepted timetable meets both.
use Rattle.std.specs.Prelude.{◌≡◌, ◌↔◌, List, [], ◌∷◌, ◌++◌, ℕ, ◌≤◌, T, length}
use Rattle.timetable.specs.Timetable.{Timetable, last_minute}
use Rattle.lists.specs.Lists.{◌∈◌}
use Rattle.results.specs.Results.{Answers, row, costs}
use Rattle.connections.specs.Connections.{Net, net, Connection, Feasible, duration, penalty, stations}
use Rattle.connections.specs.Planner.{planner_list, measure, ride_count, numbers, rows_of}
use Rattle.stores.specs.Stored.{stored, Target, Sequence}
use Rattle.stores.specs.Words.{nodes, arcs, entries_most, store_words, readable, well_made, kept_list, answer}
use Rattle.lines.specs.DirectRides.{directs, direct_rows, first_rides}

-- "for any two different listed stations and any minute from 0 to 2,879"
pub record Query (n : Net) (a m b : ℕ) : Type 0 where
  pub source_first : 1 ≤ a
  pub source_last : a ≤ n.stations
  pub target : Target n a b
  pub minute : m ≤ last_minute

pub record DemandTwo (t : Timetable) : Type 0 where
  -- "The direct rides shown carry exactly the costs that are optimal, by Definition 2 of the 2010 transfer pattern
  -- paper, among direct rides, one ride for each"
  pub direct : (a m b : ℕ) → Answers (measure m) (directs (net t) a m b) (direct_rows (net t) a m b)
  -- the direct rides are the feasible connections of one ride
  pub directs_are : (a m b : ℕ) (c : Connection)
      → c ∈ directs (net t) a m b ↔ (Feasible (net t) a m b c × (ride_count c ≡ 1))
  -- the first trips of the lines have these costs
  pub by_lines : (a m b : ℕ)
      → costs (measure m) (first_rides t a m b) ≡ costs (measure m) (directs (net t) a m b)
  -- "and a store, where one is made, holds a sequence exactly if it is the pattern, by Definition 3, of an optimal
  -- connection at some minute of the timetable", whatever words stand behind it
  pub store : (a : ℕ) (post q : List ℕ) → q ∈ readable (store_words (net t) a ++ post) ↔ Sequence (net t) a q

pub record DemandThree (t : Timetable) : Type 0 where
  -- "The list holds every feasible connection for A at t to B."
  pub listed : (a m b : ℕ) (c : Connection) → c ∈ planner_list (net t) a m b ↔ Feasible (net t) a m b c
  -- "Whatever accepted timetable is loaded, for any two different listed stations and any minute from 0 to 2,879, where
  -- a store was made and the reply fits, a rider answered from it and a planner who lists every feasible connection
  -- share one result"
  pub made : (a m b : ℕ) (post : List ℕ) → Query (net t) a m b
      → answer (net t) (store_words (net t) a ++ post) a m b ≡ rows_of m (planner_list (net t) a m b)
  pub made_answers : (a m b : ℕ) (post : List ℕ) → Query (net t) a m b
      → Answers (measure m) (planner_list (net t) a m b) (answer (net t) (store_words (net t) a ++ post) a m b)
  -- "the reply is "none" exactly when the list is empty"
  pub made_none : (a m b : ℕ) (post : List ℕ) → Query (net t) a m b
      → (kept_list (net t) (store_words (net t) a ++ post) a m b ≡ []) ↔ (planner_list (net t) a m b ≡ [])
  -- "From a store with sequences struck, or any other well-made store, the planner's list keeps only connections whose
  -- pattern is in the store lent, and where the reply fits they share one result again, in all of this."
  pub kept : (w : List ℕ) (a m b : ℕ) (c : Connection)
      → c ∈ kept_list (net t) w a m b ↔ (Feasible (net t) a m b c × (stations c ∈ readable w))
  pub struck_answers : (w : List ℕ) (a m b : ℕ)
      → Answers (measure m) (kept_list (net t) w a m b) (answer (net t) w a m b)
  -- "rows in rising duration: duration, penalty, number of rides, then trip, boarding stop, alighting stop per ride":
  -- what the row of a connection says, so that its pair is the connection's cost
  pub row_is : (m : ℕ) (c : Connection)
      → row (measure m) c ≡ duration m c ∷ penalty c ∷ ride_count c ∷ numbers c
  -- "That 9, 10 and 13 have their yes for what reading, building and a store call wrote for this timetable, with number
  -- 0, is part of the claim and no premise": 13
  pub well_made_lem : (a : ℕ) (post : List ℕ) → 1 ≤ a → a ≤ (net t).stations
      → length (nodes (stored (net t) a)) ≤ entries_most → length (arcs (stored (net t) a)) ≤ entries_most
      → T (well_made (net t).stations (store_words (net t) a ++ post))
