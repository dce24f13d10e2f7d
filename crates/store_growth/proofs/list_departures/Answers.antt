-- The order of departures, by minute and by station.
use native.Mathlib.Omega.{arith}
use borrow.Author.Rules.{rules}
use Rattle.store_stops.specs.TimelyLaws.{timely}
use Rattle.store_minutes.specs.Prepared.{order_first, ordered, standing_of}
use Rattle.store_growth.proofs.list_departures.Goals as goal

pub order_departures-n-requires : goal.order_departures-n-requires
order_departures-n-requires c = (search rules, search rules, search timely, search rules, search rules)

pub chain_departures-requires : goal.chain_departures-requires
chain_departures-requires c = (
  search rules,
  search rules,
  search timely,
  search rules,
  search rules,
  search order_first,
  search rules,
  search rules,
)

pub returns : goal.returns
returns c = (
  search ordered,
  standing_of _ _ _ _ c.chain_departures.ensures.chain_after c.chain_departures.ensures.chain_len
      c.chain_departures.ensures.begins
      (omega (arith, c.chain_departures.ensures.first_len_unchanged, c.requires.5)),
  search rules,
)
