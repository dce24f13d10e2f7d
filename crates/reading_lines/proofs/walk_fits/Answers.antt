-- Four ways out, each a law of `walk_fits_at`.
use Rattle.reading_lines.proofs.NumberLaws.{from_none, from_unlisted, to_none, to_decides}
use Rattle.reading_lines.proofs.walk_fits.Goals as goal

pub returns-then-l-lt1 : goal.returns-then-l-lt1
returns-then-l-lt1 c = search from_none

pub returns-then-p-l : goal.returns-then-p-l
returns-then-p-l c = search from_unlisted

pub returns-then-l-lt1-2 : goal.returns-then-l-lt1-2
returns-then-l-lt1-2 c = search to_none

pub returns : goal.returns
returns c = search to_decides
