-- Four ways out: the first walk, a later from, an earlier one, and the same.
use Rattle.reading_lines.proofs.NumberLaws.{first_walk, later_from, earlier_from, same_from}
use Rattle.reading_lines.proofs.walk_rises.Goals as goal

pub returns-then-p-eq0 : goal.returns-then-p-eq0
returns-then-p-eq0 c = search first_walk

pub returns-then-p-l : goal.returns-then-p-l
returns-then-p-l c = search later_from

pub returns-then-p-l-2 : goal.returns-then-p-l-2
returns-then-p-l-2 c = search earlier_from

pub returns : goal.returns
returns c = search same_from
