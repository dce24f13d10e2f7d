-- A trip left, else a call left: each time what is left is the ride and what is left of the new cursor.
use borrow.Author.Rules.{rules}
use Rattle.query_rides.proofs.CursorLaws.{near_trip, trip_good, near_call}
use Rattle.query_rides.proofs.next_nearest.Goals as goal

pub returns-then-g-c : goal.returns-then-g-c
returns-then-g-c c = (search near_call, search rules)

pub returns : goal.returns
returns c = (search near_trip, search trip_good)
