use borrow.Author.Rules.{rules}
use Rattle.store_tree.proofs.MarkLaws.{slots_first, slots_counted, slots_done, slot_near, slot_fits}
use Rattle.store_tree.proofs.slot_count.Goals as goal

pub loop-slot-init : goal.loop-slot-init
loop-slot-init c = (search rules, search slots_first)

pub overflow_cast-slot : goal.overflow_cast-slot
overflow_cast-slot c = record { fits = search slot_fits }

pub bounds-flags-slot : goal.bounds-flags-slot
bounds-flags-slot c = search slot_near

pub loop-slot-preserved : goal.loop-slot-preserved
loop-slot-preserved c = (search rules, search slots_counted)

pub returns : goal.returns
returns c = (search slots_done, search rules)
