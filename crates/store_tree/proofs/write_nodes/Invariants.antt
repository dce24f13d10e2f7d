-- The nodes before v have been written.
use mathlib.Core.Path.{◌≡◌}
use Prim.Native.Nat.{suc, ◌-◌, ◌*◌}
use lib.ListN.{length}
use Rattle.store_slots.specs.Writing.{Writing}
use Rattle.store_tree.specs.Laid.{entries_to}
use Rattle.store_tree.proofs.write_nodes.Given as goal

abbrev pub invariant-loop-v : goal.invariant-loop-v
invariant-loop-v l = (length l.store ≡ length l.initial.store)
    × Writing (entries_to l.words l.work 1 (suc l.n)) (entries_to l.words l.work l.v (suc l.n)) l.initial.store l.store
    2 (3 * l.v - 1)
