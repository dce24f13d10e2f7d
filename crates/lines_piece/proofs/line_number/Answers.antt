-- A no to an earlier question, or the line's number below or past those of lines.
use Rattle.std.proofs.Common.{refl}
use Rattle.std.proofs.lemmas.Result.{err_from_is_err_and}
use Rattle.questions.specs.Refused.{number_some}
use Rattle.lines_piece.proofs.PieceLaws.{number_before, no_line, line_past, line_named}
use Rattle.lines_piece.proofs.line_number.Goals as goal

pub returns-in_err-alone_number : goal.returns-in_err-alone_number
returns-in_err-alone_number c =
    let p = err_from_is_err_and c.from_residual.result c.from_residual.ensures.1 in
    rw (p.1, p.2) (search (number_before, number_some, c.in_err-alone_number.ensures))

pub returns-then-line-lt1 : goal.returns-then-line-lt1
returns-then-line-lt1 c = search (no_line, refl, c.in_ok-alone_number.ensures)

pub returns-then-peek-line : goal.returns-then-peek-line
returns-then-peek-line c = search (line_past, refl, c.in_ok-alone_number.ensures)

pub returns : goal.returns
returns c = search (line_named, refl, c.in_ok-alone_number.ensures)
