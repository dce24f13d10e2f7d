-- Three ways out: too short, a timetable, none.
use borrow.Author.Tests.{le-leb, lt-leb}
use Rattle.timetable.specs.Words.{timetable_number}
use Rattle.timetable_check.proofs.timetable_number.Goals as goal

pub returns-then-words-lt-WORDS_LEAST : goal.returns-then-words-lt-WORDS_LEAST
unfolding timetable_number
returns-then-words-lt-WORDS_LEAST c = simp (lt-leb _ _ c.if-words-lt-WORDS_LEAST.true)

pub returns-then-is_timetable : goal.returns-then-is_timetable
unfolding timetable_number
returns-then-is_timetable c = simp (
  le-leb _ _ c.if-words-lt-WORDS_LEAST.false,
  ← c.is_timetable.ensures,
  c.if-is_timetable.true,
)

pub returns : goal.returns
unfolding timetable_number
returns c = simp (le-leb _ _ c.if-words-lt-WORDS_LEAST.false, ← c.is_timetable.ensures, c.if-is_timetable.false)
