-- One target or none.
use Rattle.store_tree.proofs.MarkLaws.{mark_room, mark_written, mark_end, mark_none, none_end}
use Rattle.store_tree.proofs.put_target.Goals as goal

pub bounds-targets-m : goal.bounds-targets-m
bounds-targets-m c = search mark_room

pub returns-then-flag-eq1-clause-targets_after : goal.returns-then-flag-eq1-clause-targets_after
returns-then-flag-eq1-clause-targets_after c = search mark_written

pub returns-then-flag-eq1-clause-value : goal.returns-then-flag-eq1-clause-value
returns-then-flag-eq1-clause-value c = search mark_end

pub returns-clause-targets_after : goal.returns-clause-targets_after
returns-clause-targets_after c = search mark_none

pub returns-clause-value : goal.returns-clause-value
returns-clause-value c = search none_end
