-- "Are the line tables those of the timetable words lent with them or, lent without any, could they come from an
-- accepted timetable? 10"
use Rattle.std.specs.Prelude.{Bool, ◌&&◌, List, [], ◌∷◌, ℕ, leb, length, take}
use Rattle.lists.specs.Lists.{same}
use Rattle.questions.specs.Question.{Question, ask, first_no}
use Rattle.timetable.specs.Timetable.{Timetable}
use Rattle.timetable.specs.Words.{timetable_of, is_timetable}
use Rattle.lines_tables.specs.Building.{slices_least}
use Rattle.lines_tables.specs.Tables.{table_words}

-- the words begin with those of the timetable's line tables: "no question judges the words past a table"
unfoldable pub begins : List ℕ → Timetable → Bool
begins lines timetable = same (table_words timetable) (take (length (table_words timetable)) lines)

-- the line tables are those of the timetable
abbrev pub are_tables : (timetable lines : List ℕ) → Bool
are_tables timetable lines = begins lines (timetable_of timetable)

-- a timetable, line tables and working space of that many words: "Are the slices long enough ..? 8", "Could the
-- timetable words come from an accepted text? 9", and question 10
abbrev pub tables_questions : (timetable lines : List ℕ) (work : ℕ) → List Question
tables_questions timetable lines work =
    ask 8 (leb slices_least (length timetable) && leb slices_least (length lines) && leb slices_least work)
    ∷ ask 9 (is_timetable timetable)
    ∷ ask 10 (are_tables timetable lines)
    ∷ []

unfoldable pub tables_number : (timetable lines : List ℕ) (work : ℕ) → ℕ
tables_number timetable lines work = first_no (tables_questions timetable lines work)
