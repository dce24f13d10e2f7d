use borrow.Author.Rules.{rules}
use Rattle.store_tree.proofs.MarkLaws.{kids_first, kid_room, kid_more, kids_done, slot_near, slot_fits}
use Rattle.store_tree.proofs.MarkLaws.{slot_low, slot_narrow}
use Rattle.store_tree.proofs.put_kids.Goals as goal

pub loop-slot-init : goal.loop-slot-init
loop-slot-init c = (search rules, search kids_first)

pub overflow_cast-slot : goal.overflow_cast-slot
overflow_cast-slot c = record { fits = search slot_fits }

pub bounds-kids-slot : goal.bounds-kids-slot
bounds-kids-slot c = search slot_near

pub overflow_cast-slot-in-loop-slot : goal.overflow_cast-slot-in-loop-slot
overflow_cast-slot-in-loop-slot c = record { fits = search slot_narrow }

pub put_kid-here-requires : goal.put_kid-here-requires
put_kid-here-requires c = (search slot_low, search rules, search kid_room)

pub loop-slot-preserved : goal.loop-slot-preserved
loop-slot-preserved c = (search rules, search kid_more)

pub returns-clause-work_after : goal.returns-clause-work_after
returns-clause-work_after c = search kids_done
