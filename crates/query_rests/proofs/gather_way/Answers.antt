-- Where there is no way of changing no ride is noted.
use Rattle.query_rests.proofs.GatherLaws.{way_shut, way_gathered}
use Rattle.query_rests.proofs.gather_way.Goals as goal

pub returns-then-not-way-clause-z_after : goal.returns-then-not-way-clause-z_after
returns-then-not-way-clause-z_after c = search way_shut

pub returns-clause-z_after : goal.returns-clause-z_after
returns-clause-z_after c = search way_gathered
