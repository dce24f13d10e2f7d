-- What is claimed of the two layouts and of the calls between them. Document 02, Twelve: "Show that there and back
-- gives the same words, and that every lookup on one gives what it gives on the other." Statements only; `claims` in
-- Proved.antt proves them.
use Rattle.std.specs.Prelude.{◌≡◌, true, List, ℕ, ◌≤◌, ◌<◌, length, get_or, take}
use Rattle.words.specs.Put.{put}
use Rattle.replies.specs.Replies.{number_of}
use Rattle.timetable.specs.Timetable.{Timetable}
use Rattle.timetable.specs.Words.{timetable_of}
use Rattle.lines_tables.specs.Tables.{table_words}
use Rattle.lines_tables.specs.Building.{slices_least}
use Rattle.lines_lookup.specs.Lookup.{
  line_count,
  line_at,
  number_at,
  station_at,
  mark_at,
  low_at,
  total_at,
  arrive_at,
  depart_at,
  list_of,
}
use Rattle.lines_lookup.specs.First.{first_trip}
use Rattle.lines_lookup.specs.Calls.{calls_of}
use Rattle.lines_lookup.specs.Told.{Holds}
use Rattle.lines_check.specs.Question10.{are_tables}
use Rattle.lines_turned.specs.ByTrip.{words_by_trip, arrive_by_trip, depart_by_trip, first_by_trip}
use Rattle.lines_turned.specs.Turning.{are_by_trip, by_trip_reply, by_trip_words, by_stop_reply, by_stop_words}

-- ---- Lookups: v holds the tables of a timetable with times by stop, u with times by trip.

-- the words begin with those of the other layout
pub record HoldsByTrip (u : List ℕ) (t : Timetable) : Type 0 where
  pub is : take (length (words_by_trip t)) u ≡ words_by_trip t

-- the line at place i: times are looked up where each layout has them, all else where both have it
pub record SameLine (v u : List ℕ) (i : ℕ) : Type 0 where
  pub line : line_at u i ≡ line_at v i
  pub number : (j : ℕ) → j < (line_at v i).trips → number_at u (line_at u i) j ≡ number_at v (line_at v i) j
  pub station : (p : ℕ) → p < (line_at v i).positions → station_at u (line_at u i) p ≡ station_at v (line_at v i) p
  pub mark : (p : ℕ) → p < (line_at v i).positions → mark_at u (line_at u i) p ≡ mark_at v (line_at v i) p
  pub low : (p : ℕ) → p < (line_at v i).positions → low_at u (line_at u i) p ≡ low_at v (line_at v i) p
  pub total : (p : ℕ) → p < (line_at v i).positions → total_at u (line_at u i) p ≡ total_at v (line_at v i) p
  pub arrive : (p j : ℕ) → p < (line_at v i).positions → j < (line_at v i).trips
      → arrive_by_trip u (line_at u i) p j ≡ arrive_at v (line_at v i) p j
  pub depart : (p j : ℕ) → p < (line_at v i).positions → j < (line_at v i).trips
      → depart_by_trip u (line_at u i) p j ≡ depart_at v (line_at v i) p j
  pub first : (p minute : ℕ) → p < (line_at v i).positions
      → first_by_trip u (line_at u i) p minute ≡ first_trip v (line_at v i) p minute

pub record SameLookups (v u : List ℕ) : Type 0 where
  pub stations : get_or u 0 0 ≡ get_or v 0 0
  pub line_count_lem : line_count u ≡ line_count v
  pub trip_count_lem : get_or u 2 0 ≡ get_or v 2 0
  pub line : (i : ℕ) → i < line_count v → SameLine v u i
  pub list : (s : ℕ) → list_of u s ≡ list_of v s
  pub calls : (s : ℕ) → calls_of u s ≡ calls_of v s

-- ---- The calls: a timetable w, tables v or u, working space of n and then k words, and result slices that held `old`
-- and then `back`.

-- there and back: what the first call wrote, with number 0, has its yes to question 10 of the second, which replies the
-- same and writes the words lent first; behind them stands what the slice held
pub record ThereAndBack (w v : List ℕ) (n : ℕ) (old : List ℕ) (k : ℕ) (back : List ℕ) : Type 0 where
  pub asked : are_by_trip w (by_trip_words w v n old) ≡ true
  pub replies : by_stop_reply w (by_trip_words w v n old) k (length back) ≡ by_trip_reply w v n (length old)
  pub words : by_stop_words w (by_trip_words w v n old) k back ≡ put 0 (take (length (table_words (timetable_of w))) v)
      back

-- the other way round
pub record BackAndThere (w u : List ℕ) (n : ℕ) (old : List ℕ) (k : ℕ) (back : List ℕ) : Type 0 where
  pub asked : are_tables w (by_stop_words w u n old) ≡ true
  pub replies : by_trip_reply w (by_stop_words w u n old) k (length back) ≡ by_stop_reply w u n (length old)
  pub words : by_trip_words w (by_stop_words w u n old) k back ≡ put 0 (take (length (table_words (timetable_of w))) u)
      back

pub record Claims : Type 0 where
  pub lookups : (v u : List ℕ) (t : Timetable) → Holds v t → HoldsByTrip u t → SameLookups v u
  pub there_and_back : (w v : List ℕ) (n : ℕ) (old : List ℕ) (k : ℕ) (back : List ℕ)
      → number_of (by_trip_reply w v n (length old)) ≡ 0 → slices_least ≤ k → slices_least ≤ length back
      → ThereAndBack w v n old k back
  pub back_and_there : (w u : List ℕ) (n : ℕ) (old : List ℕ) (k : ℕ) (back : List ℕ)
      → number_of (by_stop_reply w u n (length old)) ≡ 0 → slices_least ≤ k → slices_least ≤ length back
      → BackAndThere w u n old k back
