-- Either no one boards, and no one arrives, or someone arrives at the next stop.
use borrow.Author.Rules.{rules}
use Rattle.query_minutes.specs.Compared.{at_least_yes, at_least_no}
use Rattle.store_penalties.proofs.RideLaws.{read_at, read_low, passed, sum_fits, next_fits, next_few, next_arrives}
use Rattle.store_penalties.proofs.RideLaws.{next_some, next_most, next_cheap, next_caught, accepted, ridden}
use Rattle.store_penalties.proofs.ride.Goals as goal

pub board-b-requires : goal.board-b-requires
board-b-requires c = (search read_at, search read_at, search read_low)

pub returns-then-at_least-clause-turned : goal.returns-then-at_least-clause-turned
returns-then-at_least-clause-turned c = search (passed, at_least_yes)

pub overflow_add-i : goal.overflow_add-i
overflow_add-i c = record { fits = search next_fits }

pub after_ride-requires : goal.after_ride-requires
after_ride-requires c = search (sum_fits, at_least_no)

pub arrive-requires : goal.arrive-requires
arrive-requires c = (
  search rules,
  search accepted,
  search rules,
  search next_few,
  search next_arrives,
  search next_some,
  search next_most,
  search next_cheap,
  search rules,
  search rules,
  search next_caught,
)

pub returns-clause-turned : goal.returns-clause-turned
returns-clause-turned c = search ridden
