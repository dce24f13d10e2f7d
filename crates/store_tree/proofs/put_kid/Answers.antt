-- One word or none.
use Rattle.store_tree.proofs.MarkLaws.{mark_room, kid_written, mark_end, kid_none, none_end}
use Rattle.store_tree.proofs.put_kid.Goals as goal

pub bounds-work-n : goal.bounds-work-n
bounds-work-n c = search mark_room

pub returns-then-flag-eq1-clause-work_after : goal.returns-then-flag-eq1-clause-work_after
returns-then-flag-eq1-clause-work_after c = search kid_written

pub returns-then-flag-eq1-clause-value : goal.returns-then-flag-eq1-clause-value
returns-then-flag-eq1-clause-value c = search mark_end

pub returns-clause-work_after : goal.returns-clause-work_after
returns-clause-work_after c = search kid_none

pub returns-clause-value : goal.returns-clause-value
returns-clause-value c = search none_end
