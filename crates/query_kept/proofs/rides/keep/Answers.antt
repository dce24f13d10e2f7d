-- The ride is put down only where it goes before the one that stands there.
use Rattle.query_kept.proofs.KeepLaws.{taken, passed}
use Rattle.query_kept.proofs.rides.keep.Goals as goal

pub returns-then-goes_before-clause-kept_after : goal.returns-then-goes_before-clause-kept_after
returns-then-goes_before-clause-kept_after c = search taken

pub returns-else-goes_before-clause-kept_after : goal.returns-else-goes_before-clause-kept_after
returns-else-goes_before-clause-kept_after c = search passed
