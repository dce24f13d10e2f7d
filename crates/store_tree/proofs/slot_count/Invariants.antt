-- The slots before index j have been counted.
use mathlib.Core.Path.{◌≡◌}
use Prim.Native.Nat.{◌+◌, ◌≤◌}
use lib.ListN.{length, drop}
use Rattle.store_tree.specs.Marks.{slot_marks}
use Rattle.store_tree.proofs.slot_count.Given as goal

abbrev pub invariant-loop-slot : goal.invariant-loop-slot
invariant-loop-slot l = (l.count ≤ l.slot-index)
    × (length (slot_marks l.flags l.list) ≡ l.count + length (slot_marks l.flags (drop l.slot-index l.list)))
