-- It is noted as a query notes it.
use Rattle.store_points.specs.Lowered.{lowered_noted}
use Rattle.store_points.proofs.lower.Goals as goal

pub returns-clause-a_after : goal.returns-clause-a_after
returns-clause-a_after c = search lowered_noted
