-- Question 10 for line tables lent without a timetable: "could they come from an accepted timetable?", where, document
-- 02, Eleven, "numbers may have gaps". The test are_some has a yes exactly for the words that do, and what building
-- wrote, with number 0, always has its yes. This is for a reader, as `question10_alone`, `building_has_yes_alone` and
-- `building_asked_alone` of proofs/Alone.antt say it.
use Rattle.std.specs.Prelude.{List, ℕ}
use Rattle.timetable.specs.Timetable.{Timetable}
use Rattle.accepted.specs.Led.{Led}
use Rattle.lines_lookup.specs.Told.{Holds}

-- Some sequence of reading, cancelling and adding leads to a timetable, and the words v begin with its line tables:
-- "no question judges the words past a table".
pub record ComesFromTimetable (v : List ℕ) : Type 0 where
  pub timetable : Timetable
  pub led : Led timetable
  pub holds : Holds v timetable
