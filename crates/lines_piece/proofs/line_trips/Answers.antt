-- The part of the slice that the line's place names, or an empty one.
use Rattle.lines_piece.proofs.PieceLaws.{piece_is, none_piece}
use Rattle.lines_piece.proofs.line_trips.Goals as goal

pub returns-in-Ok-clause-piece : goal.returns-in-Ok-clause-piece
returns-in-Ok-clause-piece c = search (piece_is, c.in-Ok.ensures.number_value)

pub returns-in-Err-clause-piece : goal.returns-in-Err-clause-piece
returns-in-Err-clause-piece c = search (none_piece, c.in-Err.ensures.number_value)
