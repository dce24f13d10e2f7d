-- In the span the words are the least so far, and behind it the least so far stays.
use Rattle.query_costs.specs.Falling.{paid_some, paid_inside, paid_is}
use Rattle.query_costs.proofs.paid_by.Goals as goal

pub overflow_sub-s : goal.overflow_sub-s
overflow_sub-s c = search paid_some

pub points_at-requires : goal.points_at-requires
points_at-requires c = search paid_inside

pub returns : goal.returns
returns c = search paid_is
