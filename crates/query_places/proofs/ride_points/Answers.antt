-- Where totals rise, their difference; a line whose totals fall would have none.
use Rattle.query_places.proofs.ReachLaws.{total_left}
use Rattle.query_places.proofs.ride_points.Goals as goal

pub returns : goal.returns
returns c = search total_left
