-- A line is what its shape is. A station line leaves the starts and the walks alone, a walk line all but the walks, a
-- stop line the walks, and a line of no shape all arrays.
use Rattle.reading.proofs.TakeLaws.{shape_next, shape_body, shape_starts, shape_walking, line_station_starts}
use Rattle.reading.proofs.TakeLaws.{line_station_walking, line_walk_body, line_walk_starts, line_stop_walking}
use Rattle.reading.proofs.TakeLaws.{shapeless_next, shapeless_body, shapeless_starts, shapeless_walking}
use Rattle.reading.proofs.take_line.Goals as goal

pub returns-in-Station : goal.returns-in-Station
returns-in-Station c = (search shape_next, search shape_body, search line_station_starts, search line_station_walking)

pub returns-in-Walk : goal.returns-in-Walk
returns-in-Walk c = (search shape_next, search line_walk_body, search line_walk_starts, search shape_walking)

pub returns-in-Stop : goal.returns-in-Stop
returns-in-Stop c = (search shape_next, search shape_body, search shape_starts, search line_stop_walking)

pub returns-in-Shapeless : goal.returns-in-Shapeless
returns-in-Shapeless c = (
  search shapeless_next,
  search shapeless_body,
  search shapeless_starts,
  search
      shapeless_walking,
)
