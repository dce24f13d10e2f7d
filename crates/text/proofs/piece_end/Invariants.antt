-- No byte before i is the mark, so that the piece from index from on ends where the piece from index i on does.
use Rattle.std.proofs.Common.{◌≡◌, ◌+◌, drop}
use Rattle.text.specs.Piece.{piece_length}
use Rattle.text.proofs.piece_end.Given as goal

abbrev pub invariant-loop-i : goal.invariant-loop-i
invariant-loop-i l = l.from + piece_length l.mark (drop l.from l.s) ≡ l.i + piece_length l.mark (drop l.i l.s)
