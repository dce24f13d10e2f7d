-- The words written so far are the first of all rows, and those of the minutes that are left are the rest.
use Rattle.query_kept.proofs.RowLaws.{Rows}
use Rattle.query_kept.proofs.rows.write_rows.Given as goal

abbrev pub invariant-loop-arrive : goal.invariant-loop-arrive
invariant-loop-arrive l = Rows l.minute l.kept l.best l.initial.answer l.answer l.here l.least.0 l.arrive
