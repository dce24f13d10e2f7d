-- Questions 8 to 10, then 11, and then the store with question 15.
use Rattle.std.proofs.Common.{refl}
use Rattle.std.proofs.lemmas.Result.{err_from_is_err_and}
use Rattle.questions.specs.Refused.{number_some}
use Rattle.store_call.specs.Made.{asked_reply, asked_words, unlisted_reply, unlisted_words, made_reply_lem, made_words}
use Rattle.store_call.specs.Made.{words_room, accepted, source_some, source_listed, source_few}
use Rattle.store_call.specs.Made.{space_room, space_part}
use Rattle.store_call.proofs.store_asked.Goals as goal

pub returns-in_err-tables_number-clause-value : goal.returns-in_err-tables_number-clause-value
returns-in_err-tables_number-clause-value c =
    let p = err_from_is_err_and c.from_residual.result c.from_residual.ensures.1 in
    rw (p.1, p.2) (search (asked_reply, number_some, c.in_err-tables_number.ensures))

pub returns-in_err-tables_number-clause-store_after : goal.returns-in_err-tables_number-clause-store_after
returns-in_err-tables_number-clause-store_after c = search (asked_words, number_some, c.in_err-tables_number.ensures)

pub is_listed-requires : goal.is_listed-requires
is_listed-requires c = search (words_room, refl, c.in_ok-tables_number.ensures)

pub returns-then-not-is_listed-clause-value : goal.returns-then-not-is_listed-clause-value
returns-then-not-is_listed-clause-value c = search (unlisted_reply, refl, c.in_ok-tables_number.ensures)

pub returns-then-not-is_listed-clause-store_after : goal.returns-then-not-is_listed-clause-store_after
returns-then-not-is_listed-clause-store_after c = search (unlisted_words, refl, c.in_ok-tables_number.ensures)

pub slice_bounds-space-end : goal.slice_bounds-space-end
slice_bounds-space-end c = search (space_room, refl, c.in_ok-tables_number.ensures)

pub make-requires : goal.make-requires
make-requires c = (
  search (words_room, refl, c.in_ok-tables_number.ensures),
  search (accepted, refl, c.in_ok-tables_number.ensures),
  search (source_some, refl, c.in_ok-tables_number.ensures),
  search (source_listed, refl, c.in_ok-tables_number.ensures),
  search (source_few, refl, c.in_ok-tables_number.ensures),
  search (space_part, refl, c.in_ok-tables_number.ensures),
)

pub returns-clause-value : goal.returns-clause-value
returns-clause-value c = search (made_reply_lem, refl, c.in_ok-tables_number.ensures)

pub returns-clause-store_after : goal.returns-clause-store_after
returns-clause-store_after c = search (made_words, refl, c.in_ok-tables_number.ensures)
