-- The source, or the station of the path in front of the ride.
use Rattle.query_shown.proofs.PriceLaws.{boards_first, boards_later, boards_past}
use Rattle.query_shown.proofs.rides.boarded.Goals as goal

pub returns-then-first : goal.returns-then-first
returns-then-first c = search boards_first

pub overflow_sub-i : goal.overflow_sub-i
overflow_sub-i c = search boards_past

pub returns : goal.returns
returns c = search boards_later
