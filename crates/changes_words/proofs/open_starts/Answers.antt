-- One word put.
use Rattle.changes_words.proofs.FillLaws.{opened}
use Rattle.changes_words.proofs.open_starts.Goals as goal

pub returns-clause-starts_after : goal.returns-clause-starts_after
returns-clause-starts_after c = search opened
