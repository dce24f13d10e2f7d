-- Three ways out, each a law of `leaves`.
use Rattle.timetable_trips.proofs.StopLaws.{depart_above, ride_above, leaving_mark}
use Rattle.timetable_trips.proofs.stop_leaves.Goals as goal

pub returns-then-s-gt-LAST_MINUTE : goal.returns-then-s-gt-LAST_MINUTE
returns-then-s-gt-LAST_MINUTE c = search depart_above

pub returns-then-s-gt-RIDE_PENALTY_MOST : goal.returns-then-s-gt-RIDE_PENALTY_MOST
returns-then-s-gt-RIDE_PENALTY_MOST c = search ride_above

pub returns : goal.returns
returns c = search leaving_mark
