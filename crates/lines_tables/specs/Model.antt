-- What the code writes into line tables, by the words of the timetable. No reader of the promise needs this file;
-- Tables says what line tables hold, and laws beside it show that these are the same words.
use Rattle.std.specs.Prelude.{◌≡◌, Bool, true, false, cond, List, [], ◌∷◌, ◌++◌, map, ℕ, zero, suc, ◌+◌, ◌-◌, ◌≤◌, ◌<◌}
use Rattle.std.specs.Prelude.{eqb, length, get_or, take, drop}
use Rattle.std.proofs.Common.{arith}
use Rattle.lists.specs.Lists.{concat_map, range}
use Rattle.timetable.specs.Timetable.{Stop}
use Rattle.timetable.specs.Words.{station_count, trip_count, stop_at, start_at, number_at, timetable_of}
use Rattle.lines.specs.Lines.{lines, head_of}
use Rattle.lines.specs.Once.{on_lines}
use Rattle.lines_found.specs.Grouped.{ends_from}
use Rattle.lines_tables.specs.Tables.{call_word, position_words}

-- the stop at place p of trip z
abbrev pub call_at : List ℕ → (z p : ℕ) → Stop
call_at w z p = stop_at w (start_at w z + p)

abbrev pub time_of : Bool → Stop → ℕ
time_of departs s = cond departs s.depart s.arrive

-- how many stops trip z has
abbrev pub calls_of : List ℕ → ℕ → ℕ
calls_of w z = start_at w (z + 1) - start_at w z

-- arrivals, or departures, of the trips of a line at place p
unfoldable pub row_at : List ℕ → (departs : Bool) (p : ℕ) (line : List ℕ) → List ℕ
row_at w departs p line = map (λ z. time_of departs (call_at w z p)) line

-- where the trips of a line begin, and the times at place p of trips that begin there
unfoldable pub starts_at : List ℕ → (line : List ℕ) → List ℕ
starts_at w line = map (start_at w) line

unfoldable pub row_from : List ℕ → (departs : Bool) (p : ℕ) (starts : List ℕ) → List ℕ
row_from w departs p starts = map (λ a. time_of departs (stop_at w (a + p))) starts

-- both, for n places from k on
unfoldable pub times_at : List ℕ → (line : List ℕ) (k n : ℕ) → List ℕ
times_at w line k n = concat_map (λ p. row_at w false p line ++ row_at w true p line) (range k n)

-- what the rides of trip z cost up to place p
unfoldable pub total_at : List ℕ → (z p : ℕ) → ℕ
total_at w z zero = 0
total_at w z (suc p) = total_at w z p + (call_at w z p).points

-- station, mark and total of trip z, for n places from k on
unfoldable pub course_at : List ℕ → (z k n : ℕ) → List ℕ
course_at w z k n = concat_map (λ p. position_words (call_word (call_at w z p)) (total_at w z p)) (range k n)

-- the numbers of the trips of a line
unfoldable pub numbers_at : List ℕ → (line : List ℕ) → List ℕ
numbers_at w line = map (number_at w) line

-- all words of one line
unfoldable pub block_at : List ℕ → (line : List ℕ) → List ℕ
block_at w line =
    calls_of w (head_of line)
    ∷ length line
    ∷ (numbers_at w line
    ++ course_at w (head_of line) 0 (calls_of w (head_of line))
    ++ times_at w line 0 (calls_of w (head_of line)))

-- every trip of the line is a trip of the timetable
pub record TripsOf (w line : List ℕ) : Type 0 where
  pub listed : (j : ℕ) → j < length line → get_or line j 0 < trip_count w

-- from each of these places on there can be a stop p places further
pub record Near (starts : List ℕ) (p : ℕ) : Type 0 where
  pub near : (j : ℕ) → j < length starts → get_or starts j 0 + p < 2048

-- every trip of the line is a trip of the timetable and has n stops at least
pub record Reaches (w line : List ℕ) (n : ℕ) : Type 0 where
  pub trips : (j : ℕ) → j < length line → get_or line j 0 < trip_count w
  pub stops : (j : ℕ) → j < length line → start_at w (get_or line j 0) + n ≤ start_at w (get_or line j 0 + 1)

-- a line: some trips of the timetable, each of which has as many stops as the first
pub record LineOf (w line : List ℕ) : Type 0 where
  pub some : 0 < length line
  pub first : head_of line < trip_count w
  pub reaches : Reaches w line (calls_of w (head_of line))

-- count trips from begin on
abbrev pub line_of : List ℕ → (begin count : ℕ) → List ℕ
line_of numbers begin count = take count (drop begin numbers)

-- the lines of the timetable that words spell
unfoldable pub lines_at : List ℕ → List (List ℕ)
lines_at w = lines (timetable_of w).trips

-- what is written for each of the lines given, the first of which stands at place i
unfoldable pub sections : (ℕ → List ℕ → List ℕ) → (i : ℕ) → List (List ℕ) → List ℕ
sections g i [] = []
sections g i (l ∷ ls) = g i l ++ sections g (i + 1) ls

-- all blocks, and where each begins, the first at index k
abbrev pub blocks_at : List ℕ → List (List ℕ) → List ℕ
blocks_at w ls = sections (λ i l. block_at w l) 0 ls

unfoldable pub places_from : List ℕ → (k : ℕ) → List (List ℕ) → List ℕ
places_from w k [] = []
places_from w k (l ∷ ls) = k ∷ places_from w (k + length (block_at w l)) ls

-- two arrays hold the lines: their trips, line by line, and where each line ends
pub record Holds (numbers ends : List ℕ) (ls : List (List ℕ)) : Type 0 where
  pub is_numbers : take (length (on_lines ls)) numbers ≡ on_lines ls
  pub is_ends : take (length ls) ends ≡ ends_from 0 ls
  pub numbers_inside : length (on_lines ls) ≤ length numbers
  pub ends_inside : length ls ≤ length ends

-- each of them is a line of the timetable
pub record AllLines (w : List ℕ) (ls : List (List ℕ)) : Type 0 where
  pub at : (i : ℕ) → i < length ls → LineOf w (get_or ls i [])

pub rest_lines : (w l : List ℕ) (ls : List (List ℕ)) → AllLines w (l ∷ ls) → AllLines w ls
rest_lines w l ls all = record { at = (λ i h. all.at (suc i) (omega arith)) }

-- ---- where lines call at a station: line and position, from 1
abbrev pub call_words : (found station line position : ℕ) → List ℕ
call_words found station line position = cond (eqb found station) (line ∷ position ∷ []) []

-- of trip z, for n places from k on
unfoldable pub line_calls_at : List ℕ → (z line station k n : ℕ) → List ℕ
line_calls_at w z line station k n =
    concat_map (λ p. call_words (call_at w z p).station station line (p + 1)) (range k n)

-- of the line at place i
abbrev pub station_calls : List ℕ → (station i : ℕ) → (line : List ℕ) → List ℕ
station_calls w station i line = line_calls_at w (head_of line) (i + 1) station 0 (calls_of w (head_of line))

-- of all lines
abbrev pub calls_at : List ℕ → (station : ℕ) → List (List ℕ) → List ℕ
calls_at w station ls = sections (station_calls w station) 0 ls

-- of n stations from s on, and where each station's begin, the first at index k
unfoldable pub pairs_at : List ℕ → List (List ℕ) → (s n : ℕ) → List ℕ
pairs_at w ls s zero = []
pairs_at w ls s (suc n) = calls_at w s ls ++ pairs_at w ls (s + 1) n

unfoldable pub pair_places : List ℕ → List (List ℕ) → (k s n : ℕ) → List ℕ
pair_places w ls k s zero = k ∷ []
pair_places w ls k s (suc n) = k ∷ pair_places w ls (k + length (calls_at w s ls)) (s + 1) n

-- ---- the whole tables
abbrev pub index_at : List ℕ → ℕ
index_at w = 4 + length (lines_at w) + length (blocks_at w (lines_at w))

-- the words of lines, then the lists of stations
unfoldable pub body_at : List ℕ → List ℕ
body_at w =
    blocks_at w (lines_at w)
    ++ (pair_places w (lines_at w) (index_at w + station_count w + 1) 1 (station_count w)
    ++ pairs_at w (lines_at w) 1 (station_count w))

unfoldable pub table_at : List ℕ → List ℕ
table_at w =
    station_count w
    ∷ length (lines_at w)
    ∷ trip_count w
    ∷ index_at w
    ∷ (places_from w (4 + length (lines_at w)) (lines_at w)
    ++ blocks_at w (lines_at w)
    ++ pair_places w (lines_at w) (index_at w + station_count w + 1) 1 (station_count w)
    ++ pairs_at w (lines_at w) 1 (station_count w))
