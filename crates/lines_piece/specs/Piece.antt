-- The trips of one line, from line tables lent without a timetable. Document 01: "The trips of one line are handed out
-- as the piece of the line tables that holds them, empty when refused; a call beside it, with the same input, returns
-- the number." What is handed out are the trips' numbers, which stand in the tables one behind the other. Lines count
-- from 1.
use Rattle.std.specs.Prelude.{cond, ◌&&◌, List, [], ◌∷◌, ℕ, ◌+◌, ◌-◌, leb, eqb, length, take, drop}
use Rattle.questions.specs.Question.{ask, first_no}
use Rattle.lines_tables.specs.Building.{slices_least}
use Rattle.lines_lookup.specs.Lookup.{line_count, line_place, line_at}
use Rattle.lines_alone.specs.Drawn.{are_some}

-- "a call beside it, with the same input, returns the number": "Are the slices long enough ..? 8", "could they come
-- from an accepted timetable? 10", "Are the stations or line named there ..? 11", for line tables v, working space of n
-- words and a line's number
unfoldable pub piece_number : (v : List ℕ) (n line : ℕ) → ℕ
piece_number v n line =
    first_no
    (ask 8 (leb slices_least (length v) && leb slices_least n)
    ∷ ask 10 (are_some v)
    ∷ ask 11 (leb 1 line && leb line (line_count v))
    ∷ [])

-- "the piece of the line tables that holds them": where it starts, behind the line's two counts, and its length
unfoldable pub piece_start : (v : List ℕ) (line : ℕ) → ℕ
piece_start v line = line_place v (line - 1) + 2

unfoldable pub piece_length : (v : List ℕ) (line : ℕ) → ℕ
piece_length v line = (line_at v (line - 1)).trips

-- "empty when refused"
unfoldable pub piece : (v : List ℕ) (n line : ℕ) → List ℕ
piece v n line =
    cond (eqb (piece_number v n line) 0) (take (piece_length v line) (drop (piece_start v line) v)) []

-- the same as numbers, for a host that can be handed no piece: both 0 when refused
unfoldable pub start_told : (v : List ℕ) (n line : ℕ) → ℕ
start_told v n line = cond (eqb (piece_number v n line) 0) (piece_start v line) 0

unfoldable pub length_told : (v : List ℕ) (n line : ℕ) → ℕ
length_told v n line = cond (eqb (piece_number v n line) 0) (piece_length v line) 0
