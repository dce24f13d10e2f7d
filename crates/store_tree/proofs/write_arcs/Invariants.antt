-- The arcs to the stations before b have been written.
use Prim.Native.Nat.{suc}
use Rattle.store_tree.specs.Laid.{hits_of}
use Rattle.store_slots.specs.Writing.{Writing}
use mathlib.Core.Path.{◌≡◌}
use lib.ListN.{length}
use Rattle.store_tree.proofs.write_arcs.Given as goal

abbrev pub invariant-loop-b : goal.invariant-loop-b
invariant-loop-b l = (length l.store ≡ length l.initial.store)
    × Writing (hits_of l.work l.targets l.n 1 (suc l.stations)) (hits_of l.work l.targets l.n l.b (suc l.stations))
    l.initial.store l.store l.at l.here
