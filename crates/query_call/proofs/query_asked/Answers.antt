-- The questions of every query with their way out.
use Rattle.std.proofs.Common.{refl}
use Rattle.std.proofs.lemmas.Result.{err_from_is_err_and}
use Rattle.questions.specs.Refused.{number_some}
use Rattle.query_call.specs.Shown.{asked_reply, asked_words, none_denied, later_reply, later_words}
use Rattle.query_call.proofs.query_asked.Goals as goal

pub returns-in_err-query_number-clause-value : goal.returns-in_err-query_number-clause-value
returns-in_err-query_number-clause-value c =
    let p = err_from_is_err_and c.from_residual.result c.from_residual.ensures.1 in
    rw (p.1, p.2) (search (asked_reply, number_some, c.in_err-query_number.ensures))

pub returns-in_err-query_number-clause-answer_after : goal.returns-in_err-query_number-clause-answer_after
returns-in_err-query_number-clause-answer_after c = search (asked_words, number_some, c.in_err-query_number.ensures)

pub query_stored-requires : goal.query_stored-requires
query_stored-requires c = search (none_denied, refl, c.in_ok-query_number.ensures)

pub returns-clause-value : goal.returns-clause-value
returns-clause-value c = search later_reply

pub returns-clause-answer_after : goal.returns-clause-answer_after
returns-clause-answer_after c = search later_words
