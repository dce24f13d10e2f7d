-- What was answered if no question is in the way; number and count are those of the reply.
use Rattle.promises.specs.Query.{ask_values_lem}
use Rattle.query_call.proofs.query.Goals as goal

pub returns-clause-values : goal.returns-clause-values
returns-clause-values c = search ask_values_lem
