-- Document 02, Nine, seen from One, where the change at a station stayed open beside a W line from the station to
-- itself: "A timetable without such a line keeps all its rows", from whatever store, and its stores, after whatever
-- trips were cancelled and added; and direct rows are what they were in any case. For a reader.
use Rattle.std.specs.Prelude.{◌≡◌, true, ◌≢◌, ℕ, ◌≤◌, length}
use mathlib.Core.List.Memᴰ.{tail as there}
use mathlib.Core.List.{List}
use Rattle.lists.specs.Lists.{◌∈◌}
use Rattle.lists.specs.Members.{none}
use Rattle.text.specs.Piece.{pieces}
use Rattle.text_shapes.specs.Shape.{shape_of}
use Rattle.text_shapes.specs.declared.Line.TheVariants.{Walk as WalkIn}
use Rattle.text_shapes.specs.declared.WalkLine.{WalkLine}
use Rattle.timetable.specs.Timetable.{Trip, Timetable}
use Rattle.timetable.specs.Changes.{cancelled, added}
use Rattle.reading.specs.Reading.{Accepted, reading}
use Rattle.connections.specs.Connections.{net}
use Rattle.connections.specs.Planner.{planner_list}
use Rattle.connections.specs.Platforms.{net_of_one, NoneAlong}
use Rattle.stores.specs.Words.{well_made, kept_list}
use Rattle.lines.specs.DirectRides.{directs}
use Rattle.lines_tables.specs.Building.{slices_least}
use Rattle.demands.specs.Demands.{Query}
use Rattle.promises.specs.Promises.{DirectCall, StoreCall, QueryCall, Running, Made, Shows, Stores}

-- no line of the text is a W line from a station to itself
abbrev pub NoLineAlong : (text : List ℕ) → Type 0
NoLineAlong text = (line : List ℕ) → line ∈ pieces 10 text → (v : WalkLine) → shape_of line ≡ WalkIn v → v.from ≢ v.to

pub record WithoutPlatforms : Type 0 where
  -- then the timetable has no such walk, and changes of trips bring none
  pub none_read : (text : List ℕ) (plan : Timetable) (text_lines : ℕ) → reading text ≡ Accepted plan text_lines
      → NoLineAlong text → NoneAlong plan
  pub none_cancelled : (plan : Timetable) (trip : ℕ) → NoneAlong plan → NoneAlong (cancelled plan trip)
  pub none_added : (plan : Timetable) (trip : ℕ) (one : Trip) → NoneAlong plan → NoneAlong (added plan trip one)
  -- rows from a made store
  pub rows_as_before : (plan : Timetable) (timetable lines : List ℕ) → Running plan timetable lines → NoneAlong plan
      → (work from to minute : ℕ) → slices_least ≤ work → Query (net plan) from minute to
      → (store : List ℕ) → Made timetable lines from store
      → (before after : List ℕ) (reply : ℕ) → QueryCall timetable lines store work from to minute before after reply
      → Shows minute (planner_list (net_of_one plan) from minute to) before after reply
  -- rows from any other well-made store
  pub kept_as_before : (plan : Timetable) (timetable lines : List ℕ) → Running plan timetable lines → NoneAlong plan
      → (work from to minute : ℕ) → slices_least ≤ work → Query (net plan) from minute to
      → (store : List ℕ) → well_made (length plan.stations) store ≡ true
      → (before after : List ℕ) (reply : ℕ) → QueryCall timetable lines store work from to minute before after reply
      → Shows minute (kept_list (net_of_one plan) store from minute to) before after reply
  -- direct rows, whatever walks there are: they know no changes
  pub direct_as_before : (plan : Timetable) (timetable lines : List ℕ) → Running plan timetable lines
      → (work from to minute : ℕ) → slices_least ≤ work → Query (net plan) from minute to
      → (before after : List ℕ) (reply : ℕ) → DirectCall timetable lines work from to minute before after reply
      → Shows minute (directs (net_of_one plan) from minute to) before after reply
  -- stores: whether one fits, the reply, and the words
  pub store_as_before : (plan : Timetable) (timetable lines : List ℕ) → Running plan timetable lines → NoneAlong plan
      → (work source : ℕ) → slices_least ≤ work → 1 ≤ source → source ≤ length plan.stations
      → (before after : List ℕ) (reply : ℕ) → StoreCall timetable lines work source before after reply
      → Stores (net_of_one plan) source before after reply
