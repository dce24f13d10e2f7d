-- The words of the window are filled, and all others said so before.
use Rattle.query_rests.proofs.RestLaws.{cleared}
use Rattle.query_rests.proofs.clear.Goals as goal

pub returns-clause-z_after : goal.returns-clause-z_after
returns-clause-z_after c = search cleared
