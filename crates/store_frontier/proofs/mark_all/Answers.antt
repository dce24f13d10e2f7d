use borrow.Author.Rules.{rules}
use Rattle.store_frontier.specs.Front.{marked_none}
use Rattle.store_frontier.proofs.FrontLaws.{held_ordered, place_inside, stop_inside_now, mark_turn, marks_all}
use Rattle.store_frontier.proofs.mark_all.Goals as goal

pub loop-r-init : goal.loop-r-init
loop-r-init c = (search rules, (search held_ordered, (search rules, search marked_none)))

pub word-j-requires : goal.word-j-requires
word-j-requires c = search place_inside

pub points_at-u-requires : goal.points_at-u-requires
points_at-u-requires c = search stop_inside_now

pub set_points-requires : goal.set_points-requires
set_points-requires c = search stop_inside_now

pub loop-r-preserved : goal.loop-r-preserved
loop-r-preserved c = (search rules, (search rules, (search rules, search mark_turn)))

pub returns-clause-marked : goal.returns-clause-marked
returns-clause-marked c = search marks_all
