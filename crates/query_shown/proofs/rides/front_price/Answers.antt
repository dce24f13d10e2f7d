-- Nothing in front of the first ride, and else the price of the step, if one can change.
use Rattle.query_shown.proofs.PriceLaws.{front_none, front_shut, front_paid}
use Rattle.query_shown.proofs.rides.front_price.Goals as goal

pub returns-then-first : goal.returns-then-first
returns-then-first c = search front_none

pub returns-then-not-way : goal.returns-then-not-way
returns-then-not-way c = search front_shut

pub returns : goal.returns
returns c = search front_paid
