use Rattle.timetable_check.proofs.CheckLaws.{station_bad, station_good, stations_done}
use Rattle.timetable_check.proofs.stations_are_valid.Goals as goal

pub returns-then-not-station_is_valid : goal.returns-then-not-station_is_valid
returns-then-not-station_is_valid c = search station_bad

pub loop-i-preserved : goal.loop-i-preserved
loop-i-preserved c = search station_good

pub returns : goal.returns
returns c = search stations_done
