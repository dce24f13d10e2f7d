-- Three ways out: nothing there, an open trip, and neither.
use Rattle.reading.proofs.TakeLaws.{not_there, not_ended, all_ended}
use Rattle.reading.proofs.end_lines.Goals as goal

pub returns-then-not-is_there : goal.returns-then-not-is_there
returns-then-not-is_there c = search not_there

pub returns-then-p-ne0 : goal.returns-then-p-ne0
returns-then-p-ne0 c = search not_ended

pub returns : goal.returns
returns c = search all_ended
