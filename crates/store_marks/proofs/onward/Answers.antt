-- The tests are those of the definition, one after the other.
use Rattle.store_marks.proofs.RideLaws.{onward_ends, onward_back, onward_on}
use Rattle.store_marks.proofs.onward.Goals as goal

pub returns-then-s-eq0 : goal.returns-then-s-eq0
returns-then-s-eq0 c = search onward_ends

pub returns-then-comes_back : goal.returns-then-comes_back
returns-then-comes_back c = search onward_back

pub returns : goal.returns
returns c = search onward_on
