-- The times stand behind the words that are as they are.
use Rattle.lines_turned.proofs.SameLaws.{line_differs, line_same}
use Rattle.lines_turned.proofs.same_line.Goals as goal

pub returns-then-not-same_part : goal.returns-then-not-same_part
returns-then-not-same_part c = search line_differs

pub returns : goal.returns
returns c = search line_same
