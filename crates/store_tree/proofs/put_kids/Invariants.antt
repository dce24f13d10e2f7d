-- The words of the kids that the flags of the slots before index j mark have been written.
use mathlib.Core.Path.{◌≡◌}
use lib.ListN.{length, drop}
use Rattle.store_slots.specs.Writing.{Writing}
use Rattle.store_tree.specs.Marks.{slot_marks, kid_words}
use Rattle.store_tree.proofs.put_kids.Given as goal

abbrev pub invariant-loop-slot : goal.invariant-loop-slot
invariant-loop-slot l = (length l.work ≡ length l.initial.work)
    × Writing (kid_words l.v (slot_marks l.kids l.list)) (kid_words l.v (slot_marks l.kids (drop l.slot-index l.list)))
    l.initial.work l.work l.n l.here
