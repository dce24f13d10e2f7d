-- What was answered if no question is in the way; number and count are those of the reply.
use Rattle.promises.specs.StoreCall.{store_values_lem}
use Rattle.store_call.proofs.make_store.Goals as goal

pub returns-clause-values : goal.returns-clause-values
returns-clause-values c = search store_values_lem
