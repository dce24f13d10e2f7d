-- One way out for each of the five tests, in their order.
use Rattle.lines_trips.proofs.TripLaws.{unlike_station, unlike_points, unlike_mark, arrives_earlier}
use Rattle.lines_trips.proofs.TripLaws.{departure_decides}
use Rattle.lines_trips.proofs.stop_joins.Goals as goal

pub returns-then-front-back : goal.returns-then-front-back
returns-then-front-back c = search unlike_station

pub returns-then-front-back-2 : goal.returns-then-front-back-2
returns-then-front-back-2 c = search unlike_points

pub returns-then-front-back-3 : goal.returns-then-front-back-3
returns-then-front-back-3 c = search unlike_mark

pub returns-then-back-front : goal.returns-then-back-front
returns-then-back-front c = search arrives_earlier

pub returns : goal.returns
returns c = search departure_decides
