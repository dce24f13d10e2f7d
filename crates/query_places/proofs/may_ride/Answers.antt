-- Two ways out, by where one boards.
use Rattle.query_places.proofs.ReachLaws.{board_open, board_closed}
use Rattle.query_places.proofs.may_ride.Goals as goal

pub returns-then-may_board : goal.returns-then-may_board
returns-then-may_board c = search board_open

pub returns : goal.returns
returns c = search board_closed
