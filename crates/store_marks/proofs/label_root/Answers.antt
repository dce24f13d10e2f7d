use borrow.Author.Rules.{rules}
use Rattle.store_marks.proofs.PartLaws.{first_room, next_room, next_fits, ordered, place_inside, stop_few}
use Rattle.store_marks.proofs.PartLaws.{stop_inside, root_start, root_on, root_done, root_kept}
use Rattle.store_marks.proofs.label_root.Goals as goal

pub index_at-begin-requires : goal.index_at-begin-requires
index_at-begin-requires c = search first_room

pub overflow_add-source : goal.overflow_add-source
overflow_add-source c = record { fits = search next_fits }

pub index_at-end-requires : goal.index_at-end-requires
index_at-end-requires c = search next_room

pub loop-k-init : goal.loop-k-init
loop-k-init c = (search rules, search ordered, search rules, search root_start)

pub word-g-requires : goal.word-g-requires
word-g-requires c = search place_inside

pub root_label-requires : goal.root_label-requires
root_label-requires c = (search rules, search rules, search stop_few)

pub set_points-requires : goal.set_points-requires
set_points-requires c = search stop_inside

pub loop-k-preserved : goal.loop-k-preserved
loop-k-preserved c = (search rules, search rules, search rules, search root_on)

pub returns-clause-labelled : goal.returns-clause-labelled
returns-clause-labelled c = search root_done

pub returns-clause-keeps : goal.returns-clause-keeps
returns-clause-keeps c = search root_kept
