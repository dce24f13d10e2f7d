-- The questions 3 to 6, in their order: six ways out, each a law of `walk_number_at`.
use Rattle.std.proofs.Common.{refl}
use Rattle.std.proofs.lemmas.Result.{err_from_is_err_and}
use Rattle.questions.specs.Refused.{number_some}
use Rattle.reading_lines.proofs.NumberLaws.{walk_out_of_range, walk_behind_stops, walk_falls, walks_full, walk_taken}
use Rattle.reading_lines.proofs.NumberLaws.{walk_refused}
use Rattle.reading_lines.proofs.walk_number.Goals as goal

pub returns-in_err-walk_in_range : goal.returns-in_err-walk_in_range
returns-in_err-walk_in_range c =
    let p = err_from_is_err_and c.from_residual.result c.from_residual.ensures.1 in
    rw (p.1, p.2) (search (walk_out_of_range, number_some, c.in_err-walk_in_range.ensures))

pub returns-then-p-ne0 : goal.returns-then-p-ne0
returns-then-p-ne0 c = search (walk_behind_stops, refl, c.in_ok-walk_in_range.ensures)

pub returns-then-not-walk_rises : goal.returns-then-not-walk_rises
returns-then-not-walk_rises c = search (walk_falls, refl, c.in_ok-walk_in_range.ensures)

pub returns-then-p-ge-WALKS_MOST : goal.returns-then-p-ge-WALKS_MOST
returns-then-p-ge-WALKS_MOST c = search (walks_full, refl, c.in_ok-walk_in_range.ensures)

pub returns-then-walk_fits : goal.returns-then-walk_fits
returns-then-walk_fits c = search (walk_taken, refl, c.in_ok-walk_in_range.ensures)

pub returns : goal.returns
returns c = search (walk_refused, refl, c.in_ok-walk_in_range.ensures)
