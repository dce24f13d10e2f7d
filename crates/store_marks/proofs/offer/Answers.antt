-- Only an arrival at the station where the way begins makes an offer.
use borrow.Author.Rules.{rules}
use Rattle.store_marks.proofs.ArrivalLaws.{begins_here, way_fits, offered, not_offered}
use Rattle.store_marks.proofs.offer.Goals as goal

pub caught_at-g-requires-clause-way : goal.caught_at-g-requires-clause-way
caught_at-g-requires-clause-way c = (search rules, search rules, search begins_here)

pub sum-requires : goal.sum-requires
sum-requires c = search way_fits

pub returns-then-b-way-clause-x_after : goal.returns-then-b-way-clause-x_after
returns-then-b-way-clause-x_after c = search offered

pub returns-else-b-way-clause-x_after : goal.returns-else-b-way-clause-x_after
returns-else-b-way-clause-x_after c = search not_offered
