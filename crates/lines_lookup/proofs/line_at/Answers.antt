use Rattle.lines_lookup.proofs.LookupLaws.{line_is}
use Rattle.lines_lookup.proofs.line_at.Goals as goal

pub returns-clause-value : goal.returns-clause-value
returns-clause-value c = search line_is
