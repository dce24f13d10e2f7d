-- What was built if no question is in the way; number and count are those of the reply.
use Rattle.lines_tables.specs.Building.{build_values_lem}
use Rattle.lines_call.proofs.build.Goals as goal

pub returns-clause-values : goal.returns-clause-values
returns-clause-values c = search build_values_lem
