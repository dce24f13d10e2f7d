use borrow.Author.Rules.{rules}
use Rattle.store_marks.proofs.PartLaws.{inside_word, settle_on, settle_done}
use Rattle.store_marks.proofs.settle.Goals as goal

pub points_at-requires : goal.points_at-requires
points_at-requires c = search inside_word

pub set_points-requires : goal.set_points-requires
set_points-requires c = search inside_word

pub loop-k-preserved : goal.loop-k-preserved
loop-k-preserved c = (search rules, search rules, search rules, search settle_on)

pub returns-clause-x_after : goal.returns-clause-x_after
returns-clause-x_after c = search settle_done
