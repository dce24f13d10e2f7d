use Rattle.query_kept.proofs.RowLaws.{rows_first, row_room, rows_more, rows_done}
use borrow.Author.Rules.{rules}
use Rattle.query_kept.proofs.rows.write_rows.Goals as goal

pub loop-arrive-init : goal.loop-arrive-init
loop-arrive-init c = search rows_first

pub write_lead-here-requires : goal.write_lead-here-requires
write_lead-here-requires c = (search rules, search rules, search row_room)

pub loop-arrive-preserved : goal.loop-arrive-preserved
loop-arrive-preserved c = search rows_more

pub returns-clause-answer_after : goal.returns-clause-answer_after
returns-clause-answer_after c = search rows_done
