-- Where there is a place to ride to, the ride to it is noted; else there is none.
use Rattle.query_direct.proofs.CallLaws.{noted_none, noted_nearest}
use Rattle.query_direct.proofs.costs.note_nearest.Goals as goal

pub returns-in-Some-clause-best_after : goal.returns-in-Some-clause-best_after
returns-in-Some-clause-best_after c = search noted_nearest

pub returns-in_default-clause-best_after : goal.returns-in_default-clause-best_after
returns-in_default-clause-best_after c = search noted_none
