-- The questions put to a query before its list is looked at: 8 to 12, in their order.
use Rattle.std.specs.Prelude.{Bool, not, ◌&&◌, List, [], ◌∷◌, ◌++◌, ℕ, leb, eqb, length}
use Rattle.questions.specs.Question.{Question, ask, first_no}
use Rattle.timetable.specs.Timetable.{Timetable, last_minute}
use Rattle.timetable.specs.Words.{timetable_of}
use Rattle.lines_check.specs.Question10.{tables_questions}

-- the station is one of the timetable's
unfoldable pub listed : Timetable → (station : ℕ) → Bool
listed timetable station = leb 1 station && leb station (length timetable.stations)

-- "Are the stations or line named there, and from and to different? 11"
unfoldable pub named : Timetable → (from to : ℕ) → Bool
named timetable from to = listed timetable from && listed timetable to && not (eqb from to)

-- from one station to another at a minute; "Is the minute 0 to 2,879? 12"
abbrev pub query_questions : (timetable lines : List ℕ) (work from to minute : ℕ) → List Question
query_questions timetable lines work from to minute =
    tables_questions timetable lines work
    ++ (ask 11 (named (timetable_of timetable) from to) ∷ ask 12 (leb minute last_minute) ∷ [])

unfoldable pub query_number : (timetable lines : List ℕ) (work from to minute : ℕ) → ℕ
query_number timetable lines work from to minute = first_no (query_questions timetable lines work from to minute)
