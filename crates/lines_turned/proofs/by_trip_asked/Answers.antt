-- Two questions come first, and where both have their yes the third.
use Rattle.std.proofs.Common.{refl}
use Rattle.std.proofs.lemmas.Result.{err_from_is_err_and}
use Rattle.questions.specs.Refused.{number_some}
use Rattle.lines_tables.specs.Copied.{part_long}
use Rattle.lines_turned.proofs.AskedLaws.{words_long, tables_long, work_long, result_long, accepted}
use Rattle.lines_turned.proofs.AskedLaws.{trip_refused_reply, trip_refused_words, trip_reply, trip_words}
use Rattle.lines_turned.proofs.by_trip_asked.Goals as goal

pub returns-in_err-slices_number-clause-value : goal.returns-in_err-slices_number-clause-value
returns-in_err-slices_number-clause-value c =
    let p = err_from_is_err_and c.from_residual.result c.from_residual.ensures.1 in
    rw (p.1, p.2) (search (trip_refused_reply, number_some, c.in_err-slices_number.ensures))

pub returns-in_err-slices_number-clause-other_after : goal.returns-in_err-slices_number-clause-other_after
returns-in_err-slices_number-clause-other_after c = search (
  trip_refused_words,
  number_some,
  c.in_err-slices_number.ensures,
)

pub slice_bounds-turn-end : goal.slice_bounds-turn-end
slice_bounds-turn-end c = search (work_long, refl, c.in_ok-slices_number.ensures)

pub turn-requires : goal.turn-requires
turn-requires c = (
  search (words_long, refl, c.in_ok-slices_number.ensures),
  search (accepted, refl, c.in_ok-slices_number.ensures),
  search (tables_long, refl, c.in_ok-slices_number.ensures),
  search (part_long, work_long, refl, c.in_ok-slices_number.ensures),
  search (result_long, refl, c.in_ok-slices_number.ensures),
)

pub returns-clause-value : goal.returns-clause-value
returns-clause-value c = search (trip_reply, refl, c.in_ok-slices_number.ensures)

pub returns-clause-other_after : goal.returns-clause-other_after
returns-clause-other_after c = search (trip_words, refl, c.in_ok-slices_number.ensures)
