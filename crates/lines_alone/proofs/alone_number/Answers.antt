-- Two slices may be too short; then question 10 decides.
use Rattle.lines_alone.proofs.SomeLaws.{lines_short, work_short, some_yes, some_no}
use Rattle.lines_alone.proofs.alone_number.Goals as goal

pub returns-then-lines-lt-WORDS_LEAST : goal.returns-then-lines-lt-WORDS_LEAST
returns-then-lines-lt-WORDS_LEAST c = search lines_short

pub returns-then-work-lt-WORDS_LEAST : goal.returns-then-work-lt-WORDS_LEAST
returns-then-work-lt-WORDS_LEAST c = search work_short

pub returns-then-are_some : goal.returns-then-are_some
returns-then-are_some c = search some_yes

pub returns : goal.returns
returns c = search some_no
