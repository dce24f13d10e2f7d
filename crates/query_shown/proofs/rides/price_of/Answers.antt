-- A change that is not in time has no price.
use Rattle.query_shown.proofs.PriceLaws.{price_late, price_timely}
use Rattle.query_shown.proofs.rides.price_of.Goals as goal

pub returns-then-step-minute_after : goal.returns-then-step-minute_after
returns-then-step-minute_after c = search price_late

pub returns : goal.returns
returns c = search price_timely
