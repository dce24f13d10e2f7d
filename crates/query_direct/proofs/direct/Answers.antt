-- What was answered if no question is in the way; number and count are those of the reply.
use Rattle.promises.specs.DirectQuery.{direct_values_lem}
use Rattle.query_direct.proofs.direct.Goals as goal

pub returns-clause-values : goal.returns-clause-values
returns-clause-values c = search direct_values_lem
