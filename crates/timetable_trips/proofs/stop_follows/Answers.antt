-- Four ways out, each a law of `follows`.
use Rattle.timetable_trips.proofs.StopLaws.{unlisted, same_station, too_early, arrive_decides}
use Rattle.timetable_trips.proofs.stop_follows.Goals as goal

pub returns-then-not-is_listed : goal.returns-then-not-is_listed
returns-then-not-is_listed c = search unlisted

pub returns-then-s-b : goal.returns-then-s-b
returns-then-s-b c = search same_station

pub returns-then-s-b-2 : goal.returns-then-s-b-2
returns-then-s-b-2 c = search too_early

pub returns : goal.returns
returns c = search arrive_decides
