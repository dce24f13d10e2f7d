-- The rides are kept at the beginning of working space, which the questions asked to be long enough.
use Rattle.std.proofs.Common.{refl}
use Rattle.std.proofs.lemmas.Result.{err_from_is_err_and}
use Rattle.questions.specs.Refused.{number_some}
use Rattle.query_direct.specs.Shown.{asked_reply, asked_words, found_reply_lem, found_words_lem}
use Rattle.query_direct.proofs.ShownLaws.{kept_room, kept_part}
use Rattle.query_direct.proofs.direct_asked.Goals as goal

pub returns-in_err-query_number-clause-value : goal.returns-in_err-query_number-clause-value
returns-in_err-query_number-clause-value c =
    let p = err_from_is_err_and c.from_residual.result c.from_residual.ensures.1 in
    rw (p.1, p.2) (search (asked_reply, number_some, c.in_err-query_number.ensures))

pub returns-in_err-query_number-clause-answer_after : goal.returns-in_err-query_number-clause-answer_after
returns-in_err-query_number-clause-answer_after c = search (asked_words, number_some, c.in_err-query_number.ensures)

pub slice_bounds-kept-end : goal.slice_bounds-kept-end
slice_bounds-kept-end c = search (kept_room, refl, c.in_ok-query_number.ensures)

pub show-requires : goal.show-requires
show-requires c = search (kept_part, refl, c.in_ok-query_number.ensures)

pub returns-clause-value : goal.returns-clause-value
returns-clause-value c = search (found_reply_lem, refl, c.in_ok-query_number.ensures)

pub returns-clause-answer_after : goal.returns-clause-answer_after
returns-clause-answer_after c = search (found_words_lem, refl, c.in_ok-query_number.ensures)
