-- Prices first, then the number of walks behind them.
use Rattle.store_minutes.specs.Prepared.{priced_behind}
use Rattle.store_growth.proofs.list_prices.Goals as goal

pub returns : goal.returns
returns c = search priced_behind
