-- The questions 3 to 6, in document 01's order, each a law of `extra_stop_at`.
use Rattle.std.proofs.Common.{refl}
use Rattle.std.proofs.lemmas.Result.{err_from_is_err_and}
use Rattle.questions.specs.Refused.{number_some}
use Rattle.reading_lines.proofs.ExtraLaws.{out_of_range, out_of_place, too_many, stop_taken, stop_refused}
use Rattle.reading_lines.proofs.extra_stop.Goals as goal

pub returns-in_err-extra_in_range : goal.returns-in_err-extra_in_range
returns-in_err-extra_in_range c =
    let p = err_from_is_err_and c.from_residual.result c.from_residual.ensures.1 in
    rw (p.1, p.2) (search (out_of_range, number_some, c.in_err-extra_in_range.ensures))

pub returns-then-not-extra_in_place : goal.returns-then-not-extra_in_place
returns-then-not-extra_in_place c = search (out_of_place, refl, c.in_ok-extra_in_range.ensures)

pub returns-then-not-extra_counted : goal.returns-then-not-extra_counted
returns-then-not-extra_counted c = search (too_many, refl, c.in_ok-extra_in_range.ensures)

pub returns-then-stop_fits : goal.returns-then-stop_fits
returns-then-stop_fits c = search (stop_taken, refl, c.in_ok-extra_in_range.ensures)

pub returns : goal.returns
returns c = search (stop_refused, refl, c.in_ok-extra_in_range.ensures)
