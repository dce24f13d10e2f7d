-- Either a row of six words or none.
use Rattle.query_kept.proofs.RowLaws.{lead_room, lead_written, lead_end, none_written, none_end}
use Rattle.query_kept.proofs.rows.write_lead.Goals as goal

pub write_row-requires : goal.write_row-requires
write_row-requires c = search lead_room

pub returns-then-less-clause-answer_after : goal.returns-then-less-clause-answer_after
returns-then-less-clause-answer_after c = search lead_written

pub returns-then-less-clause-value : goal.returns-then-less-clause-value
returns-then-less-clause-value c = search lead_end

pub returns-clause-answer_after : goal.returns-clause-answer_after
returns-clause-answer_after c = search none_written

pub returns-clause-value : goal.returns-clause-value
returns-clause-value c = search none_end
