-- The parts of question 6, one after the other: seven ways out, each a law of `stop_fits_at`.
use Rattle.reading_lines.proofs.NumberLaws.{no_station_lem, unlisted, first_fits, same_station, too_early, last_fits}
use Rattle.reading_lines.proofs.NumberLaws.{middle_fits}
use Rattle.reading_lines.proofs.stop_fits.Goals as goal

pub returns-then-l-lt1 : goal.returns-then-l-lt1
returns-then-l-lt1 c = search no_station_lem

pub returns-then-p-l : goal.returns-then-p-l
returns-then-p-l c = search unlisted

pub returns-then-p-eq0 : goal.returns-then-p-eq0
returns-then-p-eq0 c = search first_fits

pub returns-then-l-p : goal.returns-then-l-p
returns-then-l-p c = search same_station

pub returns-then-l-p-2 : goal.returns-then-l-p-2
returns-then-l-p-2 c = search too_early

pub returns-then-l : goal.returns-then-l
returns-then-l c = search last_fits

pub returns : goal.returns
returns c = search middle_fits
