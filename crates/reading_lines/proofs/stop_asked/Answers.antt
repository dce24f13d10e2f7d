-- An extra trip has questions of its own.
use Rattle.reading_lines.proofs.ExtraLaws.{extra_asked, text_asked}
use Rattle.reading_lines.proofs.stop_asked.Goals as goal

pub returns-then-rules : goal.returns-then-rules
returns-then-rules c = search extra_asked

pub returns : goal.returns
returns c = search text_asked
