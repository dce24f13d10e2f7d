-- No departure caught allows nothing; else what the departure allows, less the points of the change.
use Rattle.store_frontier.proofs.OntoLaws.{caught_inside, bound_some, bound_none}
use Rattle.store_frontier.proofs.caught_bound.Goals as goal

pub points_at-requires : goal.points_at-requires
points_at-requires c = search caught_inside

pub returns-then-f : goal.returns-then-f
returns-then-f c = search bound_some

pub returns : goal.returns
returns c = search bound_none
