use borrow.Author.Rules.{rules}
use Rattle.store_marks.proofs.PartLaws.{inside_word, clear_on, clear_done}
use Rattle.store_marks.proofs.clear.Goals as goal

pub set_points-requires : goal.set_points-requires
set_points-requires c = search inside_word

pub loop-k-preserved : goal.loop-k-preserved
loop-k-preserved c = (search rules, search rules, search rules, search clear_on)

pub returns-clause-x_after : goal.returns-clause-x_after
returns-clause-x_after c = search clear_done
