-- The words that are written are those of the line tables.
use Rattle.changes.proofs.AfterLaws.{rebuilt_lines, rebuilt_count}
use Rattle.changes.proofs.rebuild.Goals as goal

pub returns-clause-lines_after : goal.returns-clause-lines_after
returns-clause-lines_after c = search rebuilt_lines

pub returns-clause-value : goal.returns-clause-value
returns-clause-value c = search rebuilt_count
