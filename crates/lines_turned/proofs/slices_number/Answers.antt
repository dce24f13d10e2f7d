-- Four slices may be too short, and then the words may be no timetable.
use Rattle.lines_turned.proofs.AskedLaws.{words_short, tables_short, work_short, result_short, no_timetable, all_long}
use Rattle.lines_turned.proofs.slices_number.Goals as goal

pub returns-then-words-lt-WORDS_LEAST : goal.returns-then-words-lt-WORDS_LEAST
returns-then-words-lt-WORDS_LEAST c = search words_short

pub returns-then-tables-lt-WORDS_LEAST : goal.returns-then-tables-lt-WORDS_LEAST
returns-then-tables-lt-WORDS_LEAST c = search tables_short

pub returns-then-work-lt-WORDS_LEAST : goal.returns-then-work-lt-WORDS_LEAST
returns-then-work-lt-WORDS_LEAST c = search work_short

pub returns-then-res-lt-WORDS_LEAST : goal.returns-then-res-lt-WORDS_LEAST
returns-then-res-lt-WORDS_LEAST c = search result_short

pub returns-then-is_timetable : goal.returns-then-is_timetable
returns-then-is_timetable c = search all_long

pub returns : goal.returns
returns c = search no_timetable
