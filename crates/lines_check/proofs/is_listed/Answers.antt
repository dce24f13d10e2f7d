use Rattle.lines_check.proofs.AskedLaws.{below_first, as_listed}
use Rattle.lines_check.proofs.is_listed.Goals as goal

pub returns-then-station-lt1 : goal.returns-then-station-lt1
returns-then-station-lt1 c = search below_first

pub returns : goal.returns
returns c = search as_listed
