-- A ride behind which nothing is left, or that leaves too early, changes nothing; any other is noted.
use Rattle.query_rests.proofs.RestLaws.{catch_none, catch_late, catch_one, changed_in_time}
use Rattle.query_rests.proofs.catch_ride.Goals as goal

pub minute_before-m-requires : goal.minute_before-m-requires
minute_before-m-requires c = search changed_in_time

pub returns-then-has_before-clause-z_after : goal.returns-then-has_before-clause-z_after
returns-then-has_before-clause-z_after c = search catch_one

pub returns-else-has_before-clause-z_after : goal.returns-else-has_before-clause-z_after
returns-else-has_before-clause-z_after c = search catch_late

pub returns-else-less-clause-z_after : goal.returns-else-less-clause-z_after
returns-else-less-clause-z_after c = search catch_none
