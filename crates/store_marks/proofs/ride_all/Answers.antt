use borrow.Author.Rules.{rules}
use Rattle.store_marks.proofs.PartLaws.{first_room, next_room, next_fits, ordered, end_inside, place_inside}
use Rattle.store_marks.proofs.PartLaws.{stop_goes, stop_few}
use Rattle.store_marks.proofs.WholeLaws.{rides_start, rides_on, rides_done}
use Rattle.store_marks.proofs.ride_all.Goals as goal

pub index_at-begin-requires : goal.index_at-begin-requires
index_at-begin-requires c = search first_room

pub overflow_add-c : goal.overflow_add-c
overflow_add-c c = record { fits = search next_fits }

pub index_at-end-requires : goal.index_at-end-requires
index_at-end-requires c = search next_room

pub loop-k-init : goal.loop-k-init
loop-k-init c = (search rules, search ordered, search end_inside, search rules, search rides_start)

pub word-i-requires : goal.word-i-requires
word-i-requires c = search place_inside

pub ride_to-requires-clause-way : goal.ride_to-requires-clause-way
ride_to-requires-clause-way c = (search rules, search stop_goes, search stop_few)

pub loop-k-preserved : goal.loop-k-preserved
loop-k-preserved c = (search rules, search rules, search rules, search rules, search rides_on)

pub returns-clause-x_after : goal.returns-clause-x_after
returns-clause-x_after c = search rides_done
