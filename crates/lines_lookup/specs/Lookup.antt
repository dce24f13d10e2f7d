-- Line tables by their words (docs/LAYOUT.md): where each line's words begin and what stands there, and the lists of
-- stations. A word past the end of the slice counts as 0, so that all of this is said of any words. Lines, positions
-- and trips of a line stand at places from 0.
use Rattle.std.specs.Prelude.{Bool, cond, not, ◌&&◌, List, [], ℕ, ◌+◌, ◌-◌, ◌*◌, ◌%◌, ◌/◌, leb, eqb, get_or}
use Rattle.std.proofs.Math.Seq.{slice}
use Rattle.lines_lookup.specs.declared.Line.{Line as LineStruct}

-- where a line's words begin, how many positions and how many trips it has: the struct of src/
abbrev pub Line : Type 0
Line = LineStruct

abbrev pub line_count : List ℕ → ℕ
line_count v = get_or v 1 0

abbrev pub line_place : List ℕ → (i : ℕ) → ℕ
line_place v i = get_or v (4 + i) 0

unfoldable pub line_at : List ℕ → (i : ℕ) → Line
line_at v i =
    record {
      at = line_place v i;
      positions = get_or v (line_place v i) 0;
      trips = get_or v (line_place v i + 1) 0;
    }

-- the number of the trip at place j
unfoldable pub number_at : List ℕ → Line → (j : ℕ) → ℕ
number_at v l j = get_or v (l.at + 2 + j) 0

abbrev pub course_place : Line → ℕ
course_place l = l.at + 2 + l.trips

-- the word of station and mark at the position at place p, and each of the two
unfoldable pub word_at : List ℕ → Line → (p : ℕ) → ℕ
word_at v l p = get_or v (course_place l + 3 * p) 0

unfoldable pub station_at : List ℕ → Line → (p : ℕ) → ℕ
station_at v l p = word_at v l p % 128

unfoldable pub mark_at : List ℕ → Line → (p : ℕ) → ℕ
mark_at v l p = word_at v l p / 128

-- Document 02, Two: "0 both, 1 boarding only, 2 setting down only"
unfoldable pub boards_at : List ℕ → Line → (p : ℕ) → Bool
boards_at v l p = not (eqb (mark_at v l p) 2)

unfoldable pub alights_at : List ℕ → Line → (p : ℕ) → Bool
alights_at v l p = not (eqb (mark_at v l p) 1)

-- low word of the total, and total
unfoldable pub low_at : List ℕ → Line → (p : ℕ) → ℕ
low_at v l p = get_or v (course_place l + 3 * p + 1) 0

unfoldable pub total_at : List ℕ → Line → (p : ℕ) → ℕ
total_at v l p = low_at v l p + 65536 * get_or v (course_place l + 3 * p + 2) 0

-- Document 02, Three: "take a ride's penalty as the difference of two"
abbrev pub points_between : List ℕ → Line → (x y : ℕ) → ℕ
points_between v l x y = total_at v l y - total_at v l x

-- where the arrivals at place p begin; the departures stand after them
abbrev pub times_place : Line → (p : ℕ) → ℕ
times_place l p = course_place l + 3 * l.positions + 2 * (p * l.trips)

-- arrival and departure of the trip at place j
unfoldable pub arrive_at : List ℕ → Line → (p j : ℕ) → ℕ
arrive_at v l p j = get_or v (times_place l p + j) 0

unfoldable pub depart_at : List ℕ → Line → (p j : ℕ) → ℕ
depart_at v l p j = get_or v (times_place l p + l.trips + j) 0

-- where the list of station s + 1 begins
unfoldable pub calls_place : List ℕ → (s : ℕ) → ℕ
calls_place v s = get_or v (get_or v 3 0 + s) 0

-- the words of the list of station s; a station that is not listed has none
unfoldable pub list_of : List ℕ → (s : ℕ) → List ℕ
list_of v s = cond (leb 1 s && leb s (get_or v 0 0)) (slice (calls_place v (s - 1)) (calls_place v s) v) []
