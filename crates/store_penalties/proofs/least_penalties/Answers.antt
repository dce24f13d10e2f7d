-- The departures before minute d are left out; the sweep over the others settles the penalties.
use borrow.Author.Rules.{rules}
use Rattle.store_penalties.proofs.PassLaws.{stations_most_lem, order_within, order_rises, low_blank}
use Rattle.store_penalties.proofs.least_penalties.Goals as goal

pub first_from-begin-requires : goal.first_from-begin-requires
first_from-begin-requires c = (
  search rules,
  search stations_most_lem,
  search rules,
  search order_within,
  search
      order_rises,
)

pub sweep-requires-clause-blank : goal.sweep-requires-clause-blank
sweep-requires-clause-blank c = (search rules, search rules, low_blank)
