-- The departures from minute d on are passed, and those in front of them leave too early.
use borrow.Author.Rules.{rules}
use Rattle.store_frontier.proofs.PassLaws.{words_long, stations_most_lem, order_within, order_rises, pass_first}
use Rattle.store_frontier.proofs.PassLaws.{passes_all, passes_bounded}
use Rattle.store_frontier.proofs.prospects.Goals as goal

pub first_from-begin-requires : goal.first_from-begin-requires
first_from-begin-requires c = (
  search words_long,
  search stations_most_lem,
  search rules,
  search order_within,
  search order_rises,
)

pub pass_all-requires : goal.pass_all-requires
pass_all-requires c = (
  search rules,
  search rules,
  search rules,
  search rules,
  search rules,
  search rules,
  search rules,
  search rules,
  search (pass_first, c.set_all.ensures.best_after),
)

pub returns-clause-limits : goal.returns-clause-limits
returns-clause-limits c = search passes_all

pub returns-clause-bounded : goal.returns-clause-bounded
returns-clause-bounded c = search passes_bounded
