-- The questions 3 to 6, in document 01's order: seven ways out, each a law of `stop_number_at`.
use Rattle.std.proofs.Common.{refl}
use Rattle.std.proofs.lemmas.Result.{err_from_is_err_and}
use Rattle.questions.specs.Refused.{number_some}
use Rattle.reading_lines.proofs.NumberLaws.{out_of_range, other_trip, other_stop, trips_full, stops_full, stop_taken}
use Rattle.reading_lines.proofs.NumberLaws.{stop_refused}
use Rattle.reading_lines.proofs.stop_number.Goals as goal

pub returns-in_err-stop_in_range : goal.returns-in_err-stop_in_range
returns-in_err-stop_in_range c =
    let p = err_from_is_err_and c.from_residual.result c.from_residual.ensures.1 in
    rw (p.1, p.2) (search (out_of_range, number_some, c.in_err-stop_in_range.ensures))

pub returns-then-l-p : goal.returns-then-l-p
returns-then-l-p c = search (other_trip, refl, c.in_ok-stop_in_range.ensures)

pub returns-then-l-p-2 : goal.returns-then-l-p-2
returns-then-l-p-2 c = search (other_stop, refl, c.in_ok-stop_in_range.ensures)

pub returns-then-p-ge-TRIPS_MOST : goal.returns-then-p-ge-TRIPS_MOST
returns-then-p-ge-TRIPS_MOST c = search (trips_full, refl, c.in_ok-stop_in_range.ensures)

pub returns-then-p-ge-STOPS_MOST : goal.returns-then-p-ge-STOPS_MOST
returns-then-p-ge-STOPS_MOST c = search (stops_full, refl, c.in_ok-stop_in_range.ensures)

pub returns-then-stop_fits : goal.returns-then-stop_fits
returns-then-stop_fits c = search (stop_taken, refl, c.in_ok-stop_in_range.ensures)

pub returns : goal.returns
returns c = search (stop_refused, refl, c.in_ok-stop_in_range.ensures)
