-- Three ways out, each a law of `valid_station`.
use Rattle.timetable_check.proofs.TestLaws.{minutes_above, points_below, points_decide}
use Rattle.timetable_check.proofs.station_is_valid.Goals as goal

pub returns-then-s-gt-CHANGE_MINUTES_MOST : goal.returns-then-s-gt-CHANGE_MINUTES_MOST
returns-then-s-gt-CHANGE_MINUTES_MOST c = search minutes_above

pub returns-then-s-lt1 : goal.returns-then-s-lt1
returns-then-s-lt1 c = search points_below

pub returns : goal.returns
returns c = search points_decide
