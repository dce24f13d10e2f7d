-- The times stand behind the words that are copied.
use Rattle.lines_turned.proofs.WriteLaws.{line_written}
use Rattle.lines_turned.proofs.write_line.Goals as goal

pub returns-clause-out_after : goal.returns-clause-out_after
returns-clause-out_after c = search line_written
