-- The stored sequences of a source. Document 01: "All patterns of optimal connections are stored, for all minutes 0 to
-- 2,879 and all targets other than the source." A sequence is kept without the source, which is the root of the store.
use Rattle.std.specs.Prelude.{◌≡◌, not, ◌≢◌, List, ◌∷◌, map, ℕ, suc, ◌≤◌, eqb}
use Rattle.timetable.specs.Timetable.{last_minute}
use Rattle.timetable.specs.Words.{timetable_of}
use Rattle.lists.specs.Lists.{filter, concat_map, range, sort}
use Rattle.results.specs.Results.{undominated}
use Rattle.connections.specs.Connections.{Net, net, Connection, Optimal, stations, pattern}
use Rattle.connections.specs.Planner.{planner_list, measure}

abbrev pub minutes : List ℕ
minutes = range 0 (suc last_minute)

abbrev pub targets : Net → (source : ℕ) → List ℕ
targets n source = filter (λ target. not (eqb target source)) (range 1 n.stations)

-- every optimal connection, of equal cost or not
unfoldable pub optimals : Net → (source minute target : ℕ) → List Connection
optimals n source minute target =
    let list = planner_list n source minute target in filter (undominated (measure minute) list) list

-- the stations of the optimal connections from the source, at one of the minutes given and to one of the targets given
unfoldable pub optimal_stations : Net → (source : ℕ) (minutes targets : List ℕ) → List (List ℕ)
optimal_stations n source ms ts =
    concat_map (λ minute. concat_map (λ target. map stations (optimals n source minute target)) ts) ms

unfoldable pub stored : Net → (source : ℕ) → List (List ℕ)
stored n source = sort (optimal_stations n source minutes (targets n source))

-- of the timetable that words spell
abbrev pub sequences : (timetable : List ℕ) (source : ℕ) → List (List ℕ)
sequences timetable source = stored (net (timetable_of timetable)) source

-- The same in words.

pub record Target (n : Net) (source target : ℕ) : Type 0 where
  pub first : 1 ≤ target
  pub last : target ≤ n.stations
  pub other : target ≢ source

-- "a store, where one is made, holds a sequence exactly if it is the pattern, by Definition 3, of an optimal connection
-- at some minute of the timetable"; the sequence is that pattern without the source, with which every pattern begins
pub record Sequence (n : Net) (source : ℕ) (sequence : List ℕ) : Type 0 where
  pub minute : ℕ
  pub target : ℕ
  pub connection : Connection
  pub in_time_lem : minute ≤ last_minute
  pub elsewhere : Target n source target
  pub optimal : Optimal n source minute target connection
  pub is : pattern source connection ≡ source ∷ sequence
