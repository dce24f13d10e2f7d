-- Both ranges, and then it is out of place.
use Rattle.std.proofs.Common.{refl}
use Rattle.std.proofs.lemmas.Result.{err_from_is_err_and}
use Rattle.questions.specs.Refused.{number_some}
use Rattle.reading_lines.proofs.ExtraLaws.{extra_minutes, extra_points, extra_astray}
use Rattle.reading_lines.proofs.extra_station.Goals as goal

pub returns-in_err-range_number : goal.returns-in_err-range_number
returns-in_err-range_number c =
    let p = err_from_is_err_and c.from_residual.result c.from_residual.ensures.1 in
    rw (p.1, p.2) (search (extra_minutes, number_some, c.in_err-range_number.ensures))

pub returns-in_err-range_number-2 : goal.returns-in_err-range_number-2
returns-in_err-range_number-2 c =
    let p = err_from_is_err_and c.from_residual-in_err-range_number-2.result
    c.from_residual-in_err-range_number-2.ensures.1 in
    rw (p.1, p.2) (search (
      extra_points,
      refl,
      number_some,
      c.in_ok-range_number.ensures,
      c.in_err-range_number-2.ensures,
    ))

pub returns : goal.returns
returns c = search (extra_astray, refl, c.in_ok-range_number.ensures, c.in_ok-range_number-2.ensures)
