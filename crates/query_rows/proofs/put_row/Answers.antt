-- Two words, one, and the numbers of the rides, each part just past the one before.
use Rattle.query_rows.proofs.RowLaws.{copy_room, row_put, row_long}
use borrow.Author.Rules.{rules}
use Rattle.query_rows.proofs.put_row.Goals as goal

pub copy-requires : goal.copy-requires
copy-requires c = search copy_room

pub shape_of-answer : goal.shape_of-answer
shape_of-answer c = search row_long

pub returns-clause-answer_after : goal.returns-clause-answer_after
returns-clause-answer_after c = search row_put

pub returns-clause-answer_len_unchanged : goal.returns-clause-answer_len_unchanged
returns-clause-answer_len_unchanged c = (search row_long, search rules)
