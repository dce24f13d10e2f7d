-- The arcs to b of the nodes before v have been written, whose targets end before index i.
use Prim.Native.Nat.{suc}
use Rattle.store_tree.specs.Laid.{node_hits, total}
use Rattle.store_slots.specs.Writing.{Writing}
use mathlib.Core.Path.{◌≡◌}
use Prim.Native.Nat.{◌-◌, ◌+◌}
use lib.ListN.{length}
use Rattle.store_tree.proofs.write_arcs_to.Given as goal

abbrev pub invariant-loop-v : goal.invariant-loop-v
invariant-loop-v l = (length l.store ≡ length l.initial.store)
    × (l.i + total l.work l.v (suc l.n - l.v) ≡ total l.work 0 (suc l.n))
    × Writing (node_hits l.work l.targets l.b 0 0 (suc l.n)) (node_hits l.work l.targets l.b l.i l.v (suc l.n - l.v))
    l.initial.store l.store l.at l.here
