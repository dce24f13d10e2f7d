-- Three ways out, by the values of the two digits.
use Rattle.text.specs.Time.{pair_first, pair_second, pair_number}
use Rattle.text.proofs.pair_value.Goals as goal

pub returns-then-high-ge10 : goal.returns-then-high-ge10
returns-then-high-ge10 c = search pair_first

pub returns-then-low-ge10 : goal.returns-then-low-ge10
returns-then-low-ge10 c = search pair_second

pub returns : goal.returns
returns c = search pair_number
