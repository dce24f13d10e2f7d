-- The tests are those of the definition, one after the other.
use Rattle.store_marks.proofs.RideLaws.{back_there, back_elsewhere}
use Rattle.store_marks.proofs.comes_back.Goals as goal

pub returns-then-s-c : goal.returns-then-s-c
returns-then-s-c c = search back_there

pub returns : goal.returns
returns c = search back_elsewhere
