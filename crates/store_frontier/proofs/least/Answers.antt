use borrow.Author.Rules.{rules}
use Rattle.store_frontier.specs.Front.{least_none}
use Rattle.store_frontier.proofs.FrontLaws.{held_ordered, place_inside, stop_inside, least_turn, least_all}
use Rattle.store_frontier.proofs.least.Goals as goal

pub loop-r-init : goal.loop-r-init
loop-r-init c = (search rules, (search held_ordered, search least_none))

pub word-j-requires : goal.word-j-requires
word-j-requires c = search place_inside

pub points_at-requires : goal.points_at-requires
points_at-requires c = search stop_inside

pub loop-r-preserved : goal.loop-r-preserved
loop-r-preserved c = (search rules, (search rules, search least_turn))

pub returns : goal.returns
returns c = search least_all
