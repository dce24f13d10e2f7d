-- Clearing, riding and settling are the parts of a step, each over the departures of its station.
use Rattle.store_marks.proofs.PartLaws.{first_room, next_room, next_fits, ordered, end_inside, all_inside}
use Rattle.store_marks.proofs.WholeLaws.{steps}
use Rattle.store_marks.proofs.step_between.Goals as goal

pub index_at-begin-requires : goal.index_at-begin-requires
index_at-begin-requires c = search first_room

pub overflow_add-e : goal.overflow_add-e
overflow_add-e c = record { fits = search next_fits }

pub index_at-end-requires : goal.index_at-end-requires
index_at-end-requires c = search next_room

pub clear-requires : goal.clear-requires
clear-requires c = (search ordered, search end_inside, search all_inside)

pub settle-requires : goal.settle-requires
settle-requires c = (search ordered, search end_inside, search all_inside)

pub returns-clause-steps : goal.returns-clause-steps
returns-clause-steps c = search steps
