use borrow.Author.Rules.{rules}
use Rattle.store_penalties.proofs.PassLaws.{begins, in_time_lem, ends}
use Rattle.store_penalties.proofs.sweep.Goals as goal

pub loop-x-init : goal.loop-x-init
loop-x-init c = (search rules, search rules, search rules, search begins)

pub turn-requires-clause-d_bound : goal.turn-requires-clause-d_bound
turn-requires-clause-d_bound c = search in_time_lem

pub returns-clause-settled : goal.returns-clause-settled
returns-clause-settled c = search ends
