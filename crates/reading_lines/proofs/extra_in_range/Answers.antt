-- Two ways out, each a law of `extra_in_range`.
use Rattle.reading_lines.proofs.ExtraLaws.{no_trip, trip_some}
use Rattle.reading_lines.proofs.extra_in_range.Goals as goal

pub returns-then-l-lt1 : goal.returns-then-l-lt1
returns-then-l-lt1 c = search no_trip

pub returns : goal.returns
returns c = search trip_some
