-- The piece has the length that its place tells, and both fit the lower half of the reply; a refusal has no piece.
use Rattle.dairyepoch.specs.Packed.{place_packed, place_refused}
use Rattle.dairyepoch.proofs.dairyepoch_line_trips.Goals as goal

pub returns-in-Ok : goal.returns-in-Ok
returns-in-Ok c = search (place_packed, c.in-Ok.ensures.number_value)

pub returns-in-Err : goal.returns-in-Err
returns-in-Err c = search (place_refused, c.in-Err.ensures.number_value)
