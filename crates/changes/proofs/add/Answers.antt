-- A refusal writes nothing.
use Rattle.std.proofs.Common.{refl}
use Rattle.std.proofs.lemmas.Result.{err_from_is_err_and}
use Rattle.questions.specs.Refused.{number_some}
use borrow.Author.Rules.{rules}
use Rattle.changes.proofs.AskedLaws.{none_left, order_left}
use Rattle.changes.proofs.AddLaws.{denied_reply, denied_timetable, denied_lines, kept_reply, kept_timetable}
use Rattle.changes.proofs.AddLaws.{kept_lines}
use Rattle.changes.proofs.add.Goals as goal

pub returns-in_err-order_number-clause-reply : goal.returns-in_err-order_number-clause-reply
returns-in_err-order_number-clause-reply c =
    let p = err_from_is_err_and c.from_residual.result c.from_residual.ensures.1 in
    rw (p.1, p.2) (search (denied_reply, number_some, c.in_err-order_number.ensures.value))

pub returns-in_err-order_number-clause-timetable : goal.returns-in_err-order_number-clause-timetable
returns-in_err-order_number-clause-timetable c = search (
  denied_timetable,
  number_some,
  c.in_err-order_number.ensures.value,
)

pub returns-in_err-order_number-clause-lines : goal.returns-in_err-order_number-clause-lines
returns-in_err-order_number-clause-lines c = search (denied_lines, number_some, c.in_err-order_number.ensures.value)

pub add_asked-requires-clause-work_value : goal.add_asked-requires-clause-work_value
add_asked-requires-clause-work_value c = none_left _ _ _ _ 0
    c.in_ok-order_number.ensures.value refl (search rules)

pub add_asked-requires-clause-order_len : goal.add_asked-requires-clause-order_len
add_asked-requires-clause-order_len c = (
  search rules,
  order_left 0 _ _ c.in_ok-order_number.ensures.ordered refl,
)

pub returns-clause-reply : goal.returns-clause-reply
returns-clause-reply c = search kept_reply

pub returns-clause-timetable : goal.returns-clause-timetable
returns-clause-timetable c = search kept_timetable

pub returns-clause-lines : goal.returns-clause-lines
returns-clause-lines c = search kept_lines
