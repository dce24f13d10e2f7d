-- Two ways out: the stop is open, or it is closed.
use Rattle.store_frontier.specs.Allowing.{stays_open, is_closed}
use Rattle.store_frontier.proofs.close_stop.Goals as goal

pub returns-then-may_alight-clause-closed_at : goal.returns-then-may_alight-clause-closed_at
returns-then-may_alight-clause-closed_at c = search stays_open

pub returns-clause-closed_at : goal.returns-clause-closed_at
returns-clause-closed_at c = search is_closed
