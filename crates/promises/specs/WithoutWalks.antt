-- Document 02, One, seen from document 01. Where no line of a text is a W line, the timetable has no walk: riders are
-- shown what document 01 has, and a store is that of document 01 with the station of each node twice. For a reader.
use Rattle.std.specs.Prelude.{◌≡◌, ◌≢◌, ℕ, ◌+◌, ◌≤◌, length, drop}
use Rattle.std.specs.Prelude.{get_or}
use mathlib.Core.List.{List, [], ◌++◌}
use Rattle.lists.specs.Lists.{◌∈◌}
use Rattle.text.specs.Piece.{pieces}
use Rattle.timetable.specs.Timetable.{Timetable}
use Rattle.reading.specs.Reading.{Accepted}
use Rattle.reading.specs.Reading.{reading}
use Rattle.connections.specs.Connections.{net, Connection, Feasible, stations}
use Rattle.connections.specs.Planner.{planner_list}
use Rattle.connections.specs.WithoutWalks.{former_net, changed_stations, doubled}
use Rattle.stores.specs.WithoutWalks.{former_words, doubled_store}
use Rattle.lines_tables.specs.Building.{slices_least}
use Rattle.demands.specs.Demands.{Query}
use Rattle.promises.specs.Promises.{StoreCall, QueryCall, Loaded, Made, Shows, StoreFits, word_count}

-- no line of the text begins with W, which is byte 87
abbrev pub NoWalkLine : (text : List ℕ) → Type 0
NoWalkLine text = (line : List ℕ) → line ∈ pieces 10 text → get_or line 0 0 ≢ 87

pub record WithoutWalks : Type 0 where
  pub no_walks : (text : List ℕ) (plan : Timetable) (text_lines : ℕ) → reading text ≡ Accepted plan text_lines
      → NoWalkLine text → plan.walks ≡ []
  -- the rows: "at each change alights and boards at one station", so that the planner's list is that of document 01
  pub rows_as_before : (text : List ℕ) (plan : Timetable) (timetable lines : List ℕ) → Loaded text plan timetable lines
      → plan.walks ≡ [] → (work from to minute : ℕ) → slices_least ≤ work → Query (net plan) from minute to
      → (store : List ℕ) → Made timetable lines from store
      → (before after : List ℕ) (reply : ℕ) → QueryCall timetable lines store work from to minute before after reply
      → Shows minute (planner_list (former_net plan) from minute to) before after reply
  -- the patterns: each station of a change twice, as alighted at and as boarded at
  pub patterns_doubled : (plan : Timetable) (from minute to : ℕ) (c : Connection)
      → Feasible (former_net plan) from minute to c → stations c ≡ doubled (changed_stations c)
  -- the store: that of document 01, "per prefix node: station, parent", with that station twice
  pub store_doubled : (text : List ℕ) (plan : Timetable) (timetable lines : List ℕ) → Loaded text plan timetable lines
      → plan.walks ≡ [] → (work source : ℕ) → slices_least ≤ work → 1 ≤ source → source ≤ length plan.stations
      → (before after : List ℕ) (reply : ℕ) → StoreCall timetable lines work source before after reply
      → StoreFits (net plan) source (length before)
      → after ≡ doubled_store (former_words (former_net plan) source) ++ drop (word_count (net plan) source) before
