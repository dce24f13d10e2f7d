-- The words of the station.
use Rattle.query_rides.proofs.CursorLaws.{change_minutes_lem, change_points_lem}
use Rattle.query_rides.proofs.change_at.Goals as goal

pub returns : goal.returns
returns c = (search change_minutes_lem, search change_points_lem)
