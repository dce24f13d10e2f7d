use borrow.Author.Rules.{rules}
use Rattle.store_marks.proofs.PartLaws.{first_room, next_room, next_fits, ordered, end_inside, place_inside}
use Rattle.store_marks.proofs.PartLaws.{stop_goes, stop_few}
use Rattle.store_marks.proofs.WholeLaws.{boards_start, boards_on, marks_arcs, marks_kids}
use Rattle.store_marks.proofs.mark.Goals as goal

pub index_at-begin-requires : goal.index_at-begin-requires
index_at-begin-requires c = search first_room

pub overflow_add-c : goal.overflow_add-c
overflow_add-c c = record { fits = search next_fits }

pub index_at-end-requires : goal.index_at-end-requires
index_at-end-requires c = search next_room

pub loop-k-init : goal.loop-k-init
loop-k-init c = (
  search rules,
  search ordered,
  search end_inside,
  search rules,
  search rules,
  search boards_start,
  search boards_start,
)

pub word-i-requires : goal.word-i-requires
word-i-requires c = search place_inside

pub mark_ride-requires-clause-goes : goal.mark_ride-requires-clause-goes
mark_ride-requires-clause-goes c = (search stop_goes, search stop_few, search rules)

pub loop-k-preserved : goal.loop-k-preserved
loop-k-preserved c = (
  search rules,
  search rules,
  search rules,
  search rules,
  search rules,
  search boards_on,
  search boards_on,
)

pub returns-clause-arcs_marked : goal.returns-clause-arcs_marked
returns-clause-arcs_marked c = search marks_arcs

pub returns-clause-kids_marked : goal.returns-clause-kids_marked
returns-clause-kids_marked c = search marks_kids
