-- One word put.
use Rattle.changes_extra.proofs.TripLaws.{number_put}
use Rattle.changes_extra.proofs.put_number.Goals as goal

pub returns-clause-numbers_after : goal.returns-clause-numbers_after
returns-clause-numbers_after c = search number_put
