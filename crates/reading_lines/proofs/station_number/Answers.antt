-- The questions 3 to 5, in document 01's order: seven ways out, each a law of `station_number_at`.
use Rattle.std.proofs.Common.{refl}
use Rattle.std.proofs.lemmas.Result.{err_from_is_err_and}
use Rattle.questions.specs.Refused.{number_some}
use Rattle.reading_lines.proofs.NumberLaws.{minutes_refused, points_refused, behind_walks, behind_stops, out_of_turn}
use Rattle.reading_lines.proofs.NumberLaws.{stations_full, station_taken}
use Rattle.reading_lines.proofs.station_number.Goals as goal

pub returns-in_err-range_number : goal.returns-in_err-range_number
returns-in_err-range_number c =
    let p = err_from_is_err_and c.from_residual.result c.from_residual.ensures.1 in
    rw (p.1, p.2) (search (minutes_refused, number_some, c.in_err-range_number.ensures))

pub returns-in_err-range_number-2 : goal.returns-in_err-range_number-2
returns-in_err-range_number-2 c =
    let p = err_from_is_err_and c.from_residual-in_err-range_number-2.result
    c.from_residual-in_err-range_number-2.ensures.1 in
    rw (p.1, p.2) (search (
      points_refused,
      refl,
      number_some,
      c.in_ok-range_number.ensures,
      c.in_err-range_number-2.ensures,
    ))

pub returns-then-p-ne0 : goal.returns-then-p-ne0
returns-then-p-ne0 c = search (behind_walks, refl, c.in_ok-range_number.ensures, c.in_ok-range_number-2.ensures)

pub returns-then-p-ne0-2 : goal.returns-then-p-ne0-2
returns-then-p-ne0-2 c = search (behind_stops, refl, c.in_ok-range_number.ensures, c.in_ok-range_number-2.ensures)

pub returns-then-l-p : goal.returns-then-l-p
returns-then-l-p c = search (out_of_turn, refl, c.in_ok-range_number.ensures, c.in_ok-range_number-2.ensures)

pub returns-then-p-ge-STATIONS_MOST : goal.returns-then-p-ge-STATIONS_MOST
returns-then-p-ge-STATIONS_MOST c = search (
  stations_full,
  refl,
  c.in_ok-range_number.ensures,
  c.in_ok-range_number-2.ensures,
)

pub returns : goal.returns
returns c = search (station_taken, refl, c.in_ok-range_number.ensures, c.in_ok-range_number-2.ensures)
