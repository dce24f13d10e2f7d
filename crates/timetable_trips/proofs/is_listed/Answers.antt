-- Two ways out: station 0, and a number that the count decides.
use Rattle.timetable_trips.proofs.StopLaws.{no_station_lem, station_decides}
use Rattle.timetable_trips.proofs.is_listed.Goals as goal

pub returns-then-s-lt1 : goal.returns-then-s-lt1
returns-then-s-lt1 c = search no_station_lem

pub returns : goal.returns
returns c = search station_decides
