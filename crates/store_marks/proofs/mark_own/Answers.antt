-- The bound of the change is that of the departure caught; where none is caught it is 0.
use borrow.Author.Rules.{rules}
use Rattle.store_marks.proofs.ArrivalLaws.{arrival_some, arrival_low, own_fits, arrival_room, kid_room}
use Rattle.store_marks.proofs.ArrivalLaws.{own_tried}
use Rattle.store_marks.proofs.mark_own.Goals as goal

pub change_points-requires : goal.change_points-requires
change_points-requires c = (search rules, search arrival_low)

pub sum-paid-requires : goal.sum-paid-requires
sum-paid-requires c = search own_fits

pub overflow_sub-b : goal.overflow_sub-b
overflow_sub-b c = search arrival_some

pub word-requires : goal.word-requires
word-requires c = search arrival_room

pub raise-requires : goal.raise-requires
raise-requires c = search kid_room

pub returns-clause-kids_after : goal.returns-clause-kids_after
returns-clause-kids_after c = search own_tried
