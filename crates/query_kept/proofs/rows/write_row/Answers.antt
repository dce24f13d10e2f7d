-- The words of the ride stand just past those of the cost.
use Rattle.query_kept.proofs.RowLaws.{row_written}
use Rattle.query_kept.proofs.rows.write_row.Goals as goal

pub returns-clause-answer_after : goal.returns-clause-answer_after
returns-clause-answer_after c = search row_written
