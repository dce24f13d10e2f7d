-- What is caught stands beside the departures, and behind them; then what changes cost.
use borrow.Author.Rules.{rules}
use Rattle.store_stops.specs.TimelyLaws.{timely}
use Rattle.store_minutes.specs.Prepared.{departures_of}
use Rattle.store_growth.proofs.list_catches.Goals as goal

pub find_catches-requires : goal.find_catches-requires
find_catches-requires c = (search rules, search rules, search timely, search rules, search rules)

pub keep_catches-requires : goal.keep_catches-requires
keep_catches-requires c = (search rules, search rules, search timely, search rules)

pub returns : goal.returns
returns c = (search rules, search rules, search departures_of)
