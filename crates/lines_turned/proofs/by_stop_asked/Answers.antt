-- Two questions come first, and where both have their yes the third.
use Rattle.std.proofs.Common.{refl}
use Rattle.std.proofs.lemmas.Result.{err_from_is_err_and}
use Rattle.questions.specs.Refused.{number_some}
use Rattle.lines_tables.specs.Copied.{part_long}
use Rattle.lines_turned.proofs.AskedLaws.{words_long, tables_long, work_long, result_long, accepted}
use Rattle.lines_turned.proofs.AskedLaws.{stop_refused_reply, stop_refused_words, stop_reply, stop_words_lem}
use Rattle.lines_turned.proofs.by_stop_asked.Goals as goal

pub returns-in_err-slices_number-clause-value : goal.returns-in_err-slices_number-clause-value
returns-in_err-slices_number-clause-value c =
    let p = err_from_is_err_and c.from_residual.result c.from_residual.ensures.1 in
    rw (p.1, p.2) (search (stop_refused_reply, number_some, c.in_err-slices_number.ensures))

pub returns-in_err-slices_number-clause-lines_after : goal.returns-in_err-slices_number-clause-lines_after
returns-in_err-slices_number-clause-lines_after c = search (
  stop_refused_words,
  number_some,
  c.in_err-slices_number.ensures,
)

pub slice_bounds-turn_back-end : goal.slice_bounds-turn_back-end
slice_bounds-turn_back-end c = search (work_long, refl, c.in_ok-slices_number.ensures)

pub turn_back-requires : goal.turn_back-requires
turn_back-requires c = (
  search (words_long, refl, c.in_ok-slices_number.ensures),
  search (accepted, refl, c.in_ok-slices_number.ensures),
  search (tables_long, refl, c.in_ok-slices_number.ensures),
  search (part_long, work_long, refl, c.in_ok-slices_number.ensures),
  search (result_long, refl, c.in_ok-slices_number.ensures),
)

pub returns-clause-value : goal.returns-clause-value
returns-clause-value c = search (stop_reply, refl, c.in_ok-slices_number.ensures)

pub returns-clause-lines_after : goal.returns-clause-lines_after
returns-clause-lines_after c = search (stop_words_lem, refl, c.in_ok-slices_number.ensures)
