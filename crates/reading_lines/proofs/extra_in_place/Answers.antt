-- Three ways out, each a law of `place_of_extra`.
use Rattle.reading_lines.proofs.ExtraLaws.{other_number, trip_past, stop_decides}
use Rattle.reading_lines.proofs.extra_in_place.Goals as goal

pub returns-then-l-rules : goal.returns-then-l-rules
returns-then-l-rules c = search other_number

pub returns-then-p-ne0 : goal.returns-then-p-ne0
returns-then-p-ne0 c = search trip_past

pub returns : goal.returns
returns c = search stop_decides
