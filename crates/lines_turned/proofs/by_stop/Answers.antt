-- What was written if no question is in the way; number and count are those of the reply.
use Rattle.lines_turned.specs.Turning.{by_stop_values_lem}
use Rattle.lines_turned.proofs.by_stop.Goals as goal

pub returns-clause-values : goal.returns-clause-values
returns-clause-values c = search by_stop_values_lem
