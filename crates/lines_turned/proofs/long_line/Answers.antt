-- The three words of the line are looked up one by one.
use Rattle.lines_lookup.proofs.LookupLaws.{line_is}
use Rattle.lines_turned.proofs.long_line.Goals as goal

pub returns : goal.returns
returns c = search line_is
