-- A change at a station itself leads nowhere else.
use borrow.Author.Rules.{rules}
use Rattle.store_marks.proofs.WholeLaws.{own_held, own_rides, own_not}
use Rattle.store_marks.proofs.ride_own.Goals as goal

pub ride_all-requires-clause-way : goal.ride_all-requires-clause-way
ride_all-requires-clause-way c = (search own_held, search rules)

pub returns-then-y-e-clause-x_after : goal.returns-then-y-e-clause-x_after
returns-then-y-e-clause-x_after c = search own_rides

pub returns-else-y-e-clause-x_after : goal.returns-else-y-e-clause-x_after
returns-else-y-e-clause-x_after c = search own_not
