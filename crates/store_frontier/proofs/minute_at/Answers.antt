-- The stop that stands at the place, and its arrival.
use Rattle.store_frontier.proofs.FrontLaws.{minute_is}
use Rattle.store_frontier.proofs.minute_at.Goals as goal

pub returns : goal.returns
returns c = search minute_is
