-- Three ways on, of which the one that allows most counts, less the points of the ride.
use Rattle.store_frontier.proofs.PassLaws.{leave_is}
use Rattle.store_frontier.proofs.leave_bound.Goals as goal

pub returns : goal.returns
returns c = search leave_is
