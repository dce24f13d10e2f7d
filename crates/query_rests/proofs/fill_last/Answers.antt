-- The words of the window are 0, and the others as they were.
use Rattle.query_rests.proofs.RestLaws.{last_filled}
use Rattle.query_rests.proofs.fill_last.Goals as goal

pub returns-clause-arrived : goal.returns-clause-arrived
returns-clause-arrived c = search last_filled
