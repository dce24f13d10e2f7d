-- Four ways out, each a law of `stop_in_range`.
use Rattle.std.proofs.Common.{refl}
use Rattle.std.proofs.lemmas.Result.{err_from_is_err_and}
use Rattle.questions.specs.Refused.{number_some}
use Rattle.reading_lines.proofs.NumberLaws.{arrive_out, depart_out, ride_out, mark_decides}
use Rattle.reading_lines.proofs.stop_in_range.Goals as goal

pub returns-in_err-range_number : goal.returns-in_err-range_number
returns-in_err-range_number c =
    let p = err_from_is_err_and c.from_residual.result c.from_residual.ensures.1 in
    rw (p.1, p.2) (search (arrive_out, number_some, c.in_err-range_number.ensures))

pub returns-in_err-range_number-2 : goal.returns-in_err-range_number-2
returns-in_err-range_number-2 c =
    let p = err_from_is_err_and c.from_residual-in_err-range_number-2.result
    c.from_residual-in_err-range_number-2.ensures.1 in
    rw (p.1, p.2) (search (
      depart_out,
      refl,
      number_some,
      c.in_ok-range_number.ensures,
      c.in_err-range_number-2.ensures,
    ))

pub returns-in_err-range_number-3 : goal.returns-in_err-range_number-3
returns-in_err-range_number-3 c =
    let p = err_from_is_err_and c.from_residual-in_err-range_number-3.result
    c.from_residual-in_err-range_number-3.ensures.1 in
    rw (p.1, p.2) (search (
      ride_out,
      refl,
      number_some,
      c.in_ok-range_number.ensures,
      c.in_ok-range_number-2.ensures,
      c.in_err-range_number-3.ensures,
    ))

pub returns : goal.returns
returns c = search (
  mark_decides,
  refl,
  c.in_ok-range_number.ensures,
  c.in_ok-range_number-2.ensures,
  c.in_ok-range_number-3.ensures,
)
