-- Two ways out.
use Rattle.store_frontier.proofs.PassLaws.{boards_below, boards_never}
use Rattle.store_frontier.proofs.boarded_bound.Goals as goal

pub returns-then-may_board : goal.returns-then-may_board
returns-then-may_board c = search boards_below

pub returns : goal.returns
returns c = search boards_never
