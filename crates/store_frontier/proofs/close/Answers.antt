-- Where riders may alight at all stops, the words are as they should be.
use Rattle.store_frontier.specs.Allowing.{all_open}
use Rattle.store_frontier.proofs.close.Goals as goal

pub returns-then-index_at-eq0-clause-closed : goal.returns-then-index_at-eq0-clause-closed
returns-then-index_at-eq0-clause-closed c = search all_open
