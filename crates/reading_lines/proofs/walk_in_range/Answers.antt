-- Both ranges.
use Rattle.std.proofs.Common.{refl}
use Rattle.std.proofs.lemmas.Result.{err_from_is_err_and}
use Rattle.questions.specs.Refused.{number_some}
use Rattle.reading_lines.proofs.NumberLaws.{walk_minutes_out, walk_points_decide}
use Rattle.reading_lines.proofs.walk_in_range.Goals as goal

pub returns-in_err-range_number : goal.returns-in_err-range_number
returns-in_err-range_number c =
    let p = err_from_is_err_and c.from_residual.result c.from_residual.ensures.1 in
    rw (p.1, p.2) (search (walk_minutes_out, number_some, c.in_err-range_number.ensures))

pub returns : goal.returns
returns c = search (walk_points_decide, refl, c.in_ok-range_number.ensures)
