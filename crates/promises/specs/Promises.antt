-- The customer's demands 2 and 3, said of the calls themselves. A text is read and its line tables are built, each with
-- number 0, into slices of any length that held any words; then this is what the direct query, the store call and the
-- query reply, and every word of the slice that they write to; and the same after trips were cancelled and added.
-- Statements only; `promises` in Proved.antt and `change_promises` in ChangesProved.antt prove them.
use Rattle.std.specs.Prelude.{◌≡◌, true, false, cond, ◌↔◌, List, [], ◌∷◌, ◌++◌, ℕ, ◌+◌, ◌*◌, ◌≤◌, ◌<◌, leb, length}
use Rattle.std.specs.Prelude.{drop, get_or}
use Rattle.lists.specs.Lists.{◌∈◌, concat_map}
use Rattle.timetable.specs.Timetable.{Trip, Timetable}
use Rattle.timetable.specs.Words.{words, timetable_of, is_timetable}
use Rattle.timetable.specs.Changes.{runs_as, cancelled, added}
use Rattle.reading.specs.Reading.{Accepted, reading, read_extra, read_reply, read_words}
use Rattle.results.specs.Results.{row, costs, Answers}
use Rattle.connections.specs.Connections.{Net, net, Connection, Feasible, duration, penalty, stations}
use Rattle.connections.specs.Planner.{planner_list, measure, ride_count, numbers, rows_of}
use Rattle.stores.specs.Stored.{stored, Sequence}
use Rattle.stores.specs.Words.{nodes, arcs, entries_most, store_words, readable, well_made, kept_list}
use Rattle.lines.specs.DirectRides.{directs, first_rides}
use Rattle.lines_tables.specs.Building.{slices_least, line_count, build_reply, build_words}
use Rattle.lines_tables.specs.Tables.{table_words}
use Rattle.lines_check.specs.Question10.{are_tables}
use Rattle.demands.specs.Demands.{Query}
use Rattle.promises.specs.Packed.{packed_reply, packed_count}
use Rattle.promises.specs.Changes.{cancel_reply, cancel_timetable, cancel_lines, add_reply, add_timetable, add_lines}
use Rattle.promises.specs.DirectQuery.{direct_reply, direct_words}
use Rattle.promises.specs.StoreCall.{store_reply, store_after}
use Rattle.promises.specs.Query.{ask_reply, ask_words}

-- ---- The calls: the `ensures` lines of dairyepoch/src, one record for each call. Of the slice that a call writes to,
-- `before` and `after` are the words; of working space, `work` is the length.

-- dairyepoch_read
pub record ReadCall (text before after : List ℕ) (reply : ℕ) : Type 0 where
  pub replies : reply ≡ packed_reply (read_reply text (length before))
  pub writes : after ≡ read_words text before

-- dairyepoch_build_lines
pub record BuildCall (timetable : List ℕ) (work : ℕ) (before after : List ℕ) (reply : ℕ) : Type 0 where
  pub replies : reply ≡ packed_count (build_reply timetable (length before) work)
  pub writes : after ≡ build_words timetable before work

-- dairyepoch_cancel_trip
pub record CancelCall (timetable lines : List ℕ) (work trip : ℕ) (timetable-after lines_after : List ℕ) (reply : ℕ)
    : Type 0 where
  pub replies : reply ≡ packed_count (cancel_reply timetable lines work trip)
  pub writes_timetable : timetable-after ≡ cancel_timetable timetable lines work trip
  pub writes_lines : lines_after ≡ cancel_lines timetable lines work trip

-- dairyepoch_add_trip
pub record AddCall (timetable lines : List ℕ) (work trip : ℕ) (text timetable-after lines_after : List ℕ) (reply : ℕ)
    : Type 0 where
  pub replies : reply ≡ packed_reply (add_reply timetable lines work trip text)
  pub writes_timetable : timetable-after ≡ add_timetable timetable lines work trip text
  pub writes_lines : lines_after ≡ add_lines timetable lines work trip text

-- dairyepoch_direct
pub record DirectCall (timetable lines : List ℕ) (work from to minute : ℕ) (before after : List ℕ) (reply : ℕ) : Type 0
  where
    pub replies : reply ≡ packed_count (direct_reply timetable lines work from to minute (length before))
    pub writes : after ≡ direct_words timetable lines work from to minute before

-- dairyepoch_make_store
pub record StoreCall (timetable lines : List ℕ) (work source : ℕ) (before after : List ℕ) (reply : ℕ) : Type 0 where
  pub replies : reply ≡ packed_count (store_reply timetable lines work source (length before))
  pub writes : after ≡ store_after timetable lines work source before

-- dairyepoch_query
pub record QueryCall (timetable lines store : List ℕ) (work from to minute : ℕ) (before after : List ℕ) (reply : ℕ)
    : Type 0 where
  pub replies : reply ≡ packed_count (ask_reply timetable lines store work from to minute (length before))
  pub writes : after ≡ ask_words timetable lines store work from to minute before

-- ---- A reply has the number in its upper half of 32 bits, and the count in the lower.

-- "Success has number 0"
abbrev pub Succeeds : (reply : ℕ) → Type 0
Succeeds reply = reply < 4294967296

-- "A refusal returns its number, [..] count 0, and writes no word of any result slice."
abbrev pub refusal : (number : ℕ) → ℕ
refusal number = number * 4294967296

pub record Refuses (number : ℕ) (before after : List ℕ) (reply : ℕ) : Type 0 where
  pub replies : reply ≡ refusal number
  pub writes : after ≡ before

-- ---- What is done before: `plan` is the timetable that the text is read to.

-- A text was read and its line tables were built, each with number 0, whatever the slices held.
pub record Loaded (text : List ℕ) (plan : Timetable) (timetable lines : List ℕ) : Type 0 where
  pub text_lines : ℕ
  pub accepted : reading text ≡ Accepted plan text_lines
  pub timetable_before : List ℕ
  pub reply_to_read : ℕ
  pub read : ReadCall text timetable_before timetable reply_to_read
  pub read_succeeds : Succeeds reply_to_read
  pub work : ℕ
  pub lines_before : List ℕ
  pub reply_to_build : ℕ
  pub built : BuildCall timetable work lines_before lines reply_to_build
  pub build_succeeds : Succeeds reply_to_build

-- Document 02, Eleven: "Control rooms cancel and add trips during the day." The words of both slices after any changes
-- to what was loaded, each with number 0; `plan` has the trips that now run.
pub data Running : (plan : Timetable) (timetable lines : List ℕ) → Type 0 where
  none_yet : (text : List ℕ) (plan : Timetable) (timetable lines : List ℕ) → Loaded text plan timetable lines
      → Running plan timetable lines
  one_cancelled : (plan : Timetable) (timetable lines : List ℕ) (work trip : ℕ)
      (timetable-after lines_after : List ℕ) (reply : ℕ) → Running plan timetable lines
      → CancelCall timetable lines work trip timetable-after lines_after reply → Succeeds reply
      → Running (cancelled plan trip) timetable-after lines_after
  one_added : (plan : Timetable) (timetable lines : List ℕ) (work trip : ℕ) (text : List ℕ)
      (timetable-after lines_after : List ℕ) (reply : ℕ) → Running plan timetable lines
      → AddCall timetable lines work trip text timetable-after lines_after reply → Succeeds reply
      → (one : Timetable) (text_lines : ℕ) → read_extra plan trip text ≡ Accepted one text_lines
      → Running (added plan trip (get_or one.trips 0 [])) timetable-after lines_after

-- "The timetable words and line tables after each change must equal those built afresh from the trips that now run,
-- taken in rising number": they begin with the words of the plan and of its line tables; 8, 9 and 10 have their yes.
pub record Afresh (plan : Timetable) (timetable lines : List ℕ) : Type 0 where
  pub words_are : timetable ≡ words plan ++ drop (length (words plan)) timetable
  pub tables_are : lines ≡ table_words plan ++ drop (length (table_words plan)) lines
  pub spells : timetable_of timetable ≡ plan
  pub timetable_long : slices_least ≤ length timetable
  pub lines_long : slices_least ≤ length lines
  pub yes_9 : is_timetable timetable ≡ true
  pub yes_10 : are_tables timetable lines ≡ true

-- "A store is made if it is lent with the words that a store call wrote, with number 0, for source A and the same
-- timetable."
pub record Made (timetable lines : List ℕ) (source : ℕ) (store : List ℕ) : Type 0 where
  pub work : ℕ
  pub store_before : List ℕ
  pub reply : ℕ
  pub made : StoreCall timetable lines work source store_before store reply
  pub succeeds : Succeeds reply

-- ---- What a call shows of a list of connections.

-- the rows, word after word
abbrev pub shown_words : (minute : ℕ) → List Connection → List ℕ
shown_words minute list = concat_map (λ row. row) (rows_of minute list)

-- 14 for an empty list, 15 where the rows need more words than there are, or else how many pairs of duration and
-- penalty there are
abbrev pub shown_reply : (minute : ℕ) → List Connection → (room : ℕ) → ℕ
shown_reply minute list room =
    cond (leb 1 (length list))
    (cond (leb (length (shown_words minute list)) room) (length (costs (measure minute) list)) (refusal 15))
    (refusal 14)

-- the words of the rows, then what the slice held; on a refusal what it held
abbrev pub shown_after : (minute : ℕ) → List Connection → (before : List ℕ) → List ℕ
shown_after minute list before =
    cond (leb 1 (length list))
    (cond (leb (length (shown_words minute list)) (length before))
    (shown_words minute list ++ drop (length (shown_words minute list)) before)
    before)
    before

pub record Shows (minute : ℕ) (list : List Connection) (before after : List ℕ) (reply : ℕ) : Type 0 where
  pub replies : reply ≡ shown_reply minute list (length before)
  pub writes : after ≡ shown_after minute list before
  -- "the reply is "none" exactly when the list is empty", and 15 exactly if the slice is too short
  pub none : (reply ≡ refusal 14) ↔ (list ≡ [])
  pub short : (reply ≡ refusal 15) ↔ (length before < length (shown_words minute list))
  -- "a pair of duration and penalty stands in a row exactly when some connection on the list has that cost and none on
  -- the list dominates it. Each such pair has one row, in rising duration, with the connection of that cost that
  -- document 01 picks from the list; the row count is the number of these pairs"
  pub answers : Answers (measure minute) list (rows_of minute list)

-- ---- What the store call writes. "Word 0 is n, the number of prefix nodes; word 1 is m, the number of arcs."
abbrev pub node_count : Net → (source : ℕ) → ℕ
node_count n source = length (nodes (stored n source))

abbrev pub arc_count : Net → (source : ℕ) → ℕ
arc_count n source = length (arcs (stored n source))

-- document 02, One: "a store has 2 + 3n + 2m words"
abbrev pub word_count : Net → (source : ℕ) → ℕ
word_count n source = 2 + 3 * node_count n source + 2 * arc_count n source

-- "Is the answer or store slice long enough, and for a store are n and m at most 16,383?"
pub record StoreFits (n : Net) (source room : ℕ) : Type 0 where
  pub few_nodes : node_count n source ≤ entries_most
  pub few_arcs : arc_count n source ≤ entries_most
  pub room_enough : word_count n source ≤ room

pub record Stores (n : Net) (source : ℕ) (before after : List ℕ) (reply : ℕ) : Type 0 where
  -- 15 exactly if that has a no, and then nothing is written
  pub short : (reply ≡ refusal 15) ↔ ¬ StoreFits n source (length before)
  pub short_writes : ¬ StoreFits n source (length before) → after ≡ before
  -- "A store call returns its words", 2 + 3n + 2m; "Words past a result keep their values"
  pub replies : StoreFits n source (length before) → reply ≡ word_count n source
  pub writes : StoreFits n source (length before)
      → after ≡ store_words n source ++ drop (word_count n source) before

-- ---- The promises.
pub record Promises : Type 0 where
  -- A text that is read with number 0 is accepted, its lines are counted, its timetable's words are written, and 9 has
  -- its yes for them.
  pub reads : (text before after : List ℕ) (reply : ℕ) → ReadCall text before after reply → Succeeds reply
      → (plan : Timetable)
      × (text_lines : ℕ)
      × (reading text ≡ Accepted plan text_lines)
      × (reply ≡ text_lines)
      × (after ≡ words plan ++ drop (length (words plan)) before)
      × (is_timetable after ≡ true)
  -- Building counted the lines and wrote the line tables of that timetable, and 10 has its yes for them: "That 9, 10
  -- and 13 have their yes for what reading, building and a store call wrote for this timetable, with number 0, is part
  -- of the claim and no premise."
  pub builds : (text : List ℕ) (plan : Timetable) (timetable lines : List ℕ)
      → (loaded : Loaded text plan timetable lines)
      → (loaded.reply_to_build ≡ line_count plan)
      × (lines ≡ table_words plan ++ drop (length (table_words plan)) loaded.lines_before)
      × (are_tables timetable lines ≡ true)
  -- Demand 2: "The direct rides shown carry exactly the costs that are optimal, by Definition 2 of the 2010 transfer
  -- pattern paper, among direct rides, one ride for each", and the list is that of the feasible single rides.
  pub direct_shows : (text : List ℕ) (plan : Timetable) (timetable lines : List ℕ) → Loaded text plan timetable lines
      → (work from to minute : ℕ) → slices_least ≤ work → Query (net plan) from minute to
      → (before after : List ℕ) (reply : ℕ) → DirectCall timetable lines work from to minute before after reply
      → Shows minute (directs (net plan) from minute to) before after reply
  pub direct_list : (text : List ℕ) (plan : Timetable) (text_lines : ℕ) → reading text ≡ Accepted plan text_lines
      → (from minute to : ℕ) (c : Connection)
      → c ∈ directs (net plan) from minute to ↔ (Feasible (net plan) from minute to c × (ride_count c ≡ 1))
  -- "A direct query takes, for each position of A before one of B, the first trip of the line that leaves at or after
  -- the minute; Definition 2 picks the costs among these": they are the costs among all direct rides
  pub direct_lines : (text : List ℕ) (plan : Timetable) (text_lines : ℕ) → reading text ≡ Accepted plan text_lines
      → (from minute to : ℕ)
      → costs (measure minute) (first_rides plan from minute to)
      ≡ costs (measure minute) (directs (net plan) from minute to)
  -- Demand 2: "a store, where one is made, holds a sequence exactly if it is the pattern, by Definition 3, of an
  -- optimal connection at some minute of the timetable", and 13 has its yes for it.
  pub store_stores : (text : List ℕ) (plan : Timetable) (timetable lines : List ℕ) → Loaded text plan timetable lines
      → (work source : ℕ) → slices_least ≤ work → 1 ≤ source → source ≤ length plan.stations
      → (before after : List ℕ) (reply : ℕ) → StoreCall timetable lines work source before after reply
      → Stores (net plan) source before after reply
  pub store_holds : (text : List ℕ) (plan : Timetable) (timetable lines : List ℕ) → Loaded text plan timetable lines
      → (source : ℕ) (store : List ℕ) → Made timetable lines source store
      → (sequence : List ℕ) → sequence ∈ readable store ↔ Sequence (net plan) source sequence
  pub store_well_made : (text : List ℕ) (plan : Timetable) (timetable lines : List ℕ)
      → Loaded text plan timetable lines
      → (source : ℕ) (store : List ℕ) → Made timetable lines source store
      → well_made (length plan.stations) store ≡ true
  -- Demand 3: "Whatever accepted timetable is loaded, for any two different listed stations and any minute from 0 to
  -- 2,879, where a store was made [..], a rider answered from it and a planner who lists every feasible connection
  -- share one result".
  pub query_shows : (text : List ℕ) (plan : Timetable) (timetable lines : List ℕ) → Loaded text plan timetable lines
      → (work from to minute : ℕ) → slices_least ≤ work → Query (net plan) from minute to
      → (store : List ℕ) → Made timetable lines from store
      → (before after : List ℕ) (reply : ℕ) → QueryCall timetable lines store work from to minute before after reply
      → Shows minute (planner_list (net plan) from minute to) before after reply
  pub planner_list_lem : (text : List ℕ) (plan : Timetable) (text_lines : ℕ) → reading text ≡ Accepted plan text_lines
      → (from minute to : ℕ) (c : Connection)
      → c ∈ planner_list (net plan) from minute to ↔ Feasible (net plan) from minute to c
  -- "From a store with sequences struck, or any other well-made store, the planner's list keeps only connections whose
  -- pattern is in the store lent, and where the reply fits they share one result again, in all of this."
  pub kept_shows : (text : List ℕ) (plan : Timetable) (timetable lines : List ℕ) → Loaded text plan timetable lines
      → (work from to minute : ℕ) → slices_least ≤ work → Query (net plan) from minute to
      → (store : List ℕ) → well_made (length plan.stations) store ≡ true
      → (before after : List ℕ) (reply : ℕ) → QueryCall timetable lines store work from to minute before after reply
      → Shows minute (kept_list (net plan) store from minute to) before after reply
  pub kept_list_lem : (text : List ℕ) (plan : Timetable) (text_lines : ℕ) → reading text ≡ Accepted plan text_lines
      → (store : List ℕ) (from minute to : ℕ) (c : Connection)
      → c ∈ kept_list (net plan) store from minute to
      ↔ (Feasible (net plan) from minute to c × (stations c ∈ readable store))
  -- "rows in rising duration: duration, penalty, number of rides, then trip, boarding stop, alighting stop per ride":
  -- the row of a connection, in all of this
  pub row_says : (minute : ℕ) (c : Connection)
      → row (measure minute) c ≡ duration minute c ∷ penalty c ∷ ride_count c ∷ numbers c
  -- "Is the store well made ..? 13"
  pub ill_made : (text : List ℕ) (plan : Timetable) (timetable lines : List ℕ) → Loaded text plan timetable lines
      → (work from to minute : ℕ) → slices_least ≤ work → Query (net plan) from minute to
      → (store : List ℕ) → well_made (length plan.stations) store ≡ false
      → (before after : List ℕ) (reply : ℕ) → QueryCall timetable lines store work from to minute before after reply
      → Refuses 13 before after reply
  -- "working space 16,384 32-bit words? 8": the three calls may be lent other working space than building was, but none
  -- that is shorter
  pub direct_work : (timetable lines : List ℕ) (work from to minute : ℕ) → work < slices_least
      → (before after : List ℕ) (reply : ℕ) → DirectCall timetable lines work from to minute before after reply
      → Refuses 8 before after reply
  pub store_work : (timetable lines : List ℕ) (work source : ℕ) → work < slices_least
      → (before after : List ℕ) (reply : ℕ) → StoreCall timetable lines work source before after reply
      → Refuses 8 before after reply
  pub query_work : (timetable lines store : List ℕ) (work from to minute : ℕ) → work < slices_least
      → (before after : List ℕ) (reply : ℕ) → QueryCall timetable lines store work from to minute before after reply
      → Refuses 8 before after reply

-- ---- The promises after changes. Document 02, Eleven.
pub record ChangePromises : Type 0 where
  -- "The timetable words and line tables after each change must equal those built afresh from the trips that now run"
  pub changed_words : (plan : Timetable) (timetable lines : List ℕ) → Running plan timetable lines
      → Afresh plan timetable lines
  -- An extra trip that is added with number 0 has accepted lines, so that `one_added` holds of every such call.
  pub adds : (plan : Timetable) (timetable lines : List ℕ) → Running plan timetable lines
      → (work trip : ℕ) (text timetable-after lines_after : List ℕ) (reply : ℕ)
      → AddCall timetable lines work trip text timetable-after lines_after reply → Succeeds reply
      → (one : Timetable) × (text_lines : ℕ) × (read_extra plan trip text ≡ Accepted one text_lines)
  -- "Turned away: 18, cancelling a trip that isn't running, and 19, adding one that is, both after 10."
  pub cancel_turned_away : (plan : Timetable) (timetable lines : List ℕ) → Running plan timetable lines
      → (work trip : ℕ) → slices_least ≤ work → runs_as trip plan.numbers ≡ false
      → (timetable-after lines_after : List ℕ) (reply : ℕ)
      → CancelCall timetable lines work trip timetable-after lines_after reply
      → Refuses 18 timetable timetable-after reply × Refuses 18 lines lines_after reply
  pub add_turned_away : (plan : Timetable) (timetable lines : List ℕ) → Running plan timetable lines
      → (work trip : ℕ) → slices_least ≤ work → runs_as trip plan.numbers ≡ true
      → (text timetable-after lines_after : List ℕ) (reply : ℕ)
      → AddCall timetable lines work trip text timetable-after lines_after reply
      → Refuses 19 timetable timetable-after reply × Refuses 19 lines lines_after reply
  -- "Cancelling and adding return the tables' number of lines."
  pub cancel_counts : (plan : Timetable) (timetable lines : List ℕ) → Running plan timetable lines
      → (work trip : ℕ) (timetable-after lines_after : List ℕ) (reply : ℕ)
      → CancelCall timetable lines work trip timetable-after lines_after reply → Succeeds reply
      → reply ≡ line_count (cancelled plan trip)
  pub add_counts : (plan : Timetable) (timetable lines : List ℕ) → Running plan timetable lines
      → (work trip : ℕ) (text timetable-after lines_after : List ℕ) (reply : ℕ)
      → AddCall timetable lines work trip text timetable-after lines_after reply → Succeeds reply
      → (one : Timetable) (text_lines : ℕ) → read_extra plan trip text ≡ Accepted one text_lines
      → reply ≡ line_count (added plan trip (get_or one.trips 0 []))
  -- demand 2 for the trips that now run: direct rides, and what a store holds that is rebuilt
  pub direct_shows_changed : (plan : Timetable) (timetable lines : List ℕ) → Running plan timetable lines
      → (work from to minute : ℕ) → slices_least ≤ work → Query (net plan) from minute to
      → (before after : List ℕ) (reply : ℕ) → DirectCall timetable lines work from to minute before after reply
      → Shows minute (directs (net plan) from minute to) before after reply
  pub rebuilt_stores : (plan : Timetable) (timetable lines : List ℕ) → Running plan timetable lines
      → (work source : ℕ) → slices_least ≤ work → 1 ≤ source → source ≤ length plan.stations
      → (before after : List ℕ) (reply : ℕ) → StoreCall timetable lines work source before after reply
      → Stores (net plan) source before after reply
  pub rebuilt_holds : (plan : Timetable) (timetable lines : List ℕ) → Running plan timetable lines
      → (source : ℕ) (store : List ℕ) → Made timetable lines source store
      → (sequence : List ℕ) → sequence ∈ readable store ↔ Sequence (net plan) source sequence
  -- "once rebuilt, it matches the whole list again"
  pub rebuilt_shows : (plan : Timetable) (timetable lines : List ℕ) → Running plan timetable lines
      → (work from to minute : ℕ) → slices_least ≤ work → Query (net plan) from minute to
      → (store : List ℕ) → Made timetable lines from store
      → (before after : List ℕ) (reply : ℕ) → QueryCall timetable lines store work from to minute before after reply
      → Shows minute (planner_list (net plan) from minute to) before after reply
  pub changed_list : (plan : Timetable) (timetable lines : List ℕ) → Running plan timetable lines
      → (from minute to : ℕ) (c : Connection)
      → c ∈ planner_list (net plan) from minute to ↔ Feasible (net plan) from minute to c
  -- "Until its store is rebuilt, a display answers for the running connections with stored patterns": from a store made
  -- before any of the changes, or any other that is well made
  pub kept_shows_changed : (plan : Timetable) (timetable lines : List ℕ) → Running plan timetable lines
      → (work from to minute : ℕ) → slices_least ≤ work → Query (net plan) from minute to
      → (store : List ℕ) → well_made (length plan.stations) store ≡ true
      → (before after : List ℕ) (reply : ℕ) → QueryCall timetable lines store work from to minute before after reply
      → Shows minute (kept_list (net plan) store from minute to) before after reply
  -- a store made at any time is well made, and stays so: no change adds or takes away a station
  pub made_well_made : (plan : Timetable) (timetable lines : List ℕ) → Running plan timetable lines
      → (source : ℕ) (store : List ℕ) → Made timetable lines source store
      → well_made (length plan.stations) store ≡ true
  pub cancelled_stations : (plan : Timetable) (trip : ℕ) → (cancelled plan trip).stations ≡ plan.stations
  pub added_stations : (plan : Timetable) (trip : ℕ) (one : Trip) → (added plan trip one).stations ≡ plan.stations
  pub kept_list_changed : (plan : Timetable) (timetable lines : List ℕ) → Running plan timetable lines
      → (store : List ℕ) (from minute to : ℕ) (c : Connection)
      → c ∈ kept_list (net plan) store from minute to
      ↔ (Feasible (net plan) from minute to c × (stations c ∈ readable store))
