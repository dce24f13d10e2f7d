-- The targets before index i have been looked at.
use Rattle.store_tree.specs.Laid.{hits_to}
use Rattle.store_slots.specs.Writing.{Writing}
use mathlib.Core.Path.{◌≡◌}
use lib.ListN.{length}
use Rattle.store_tree.proofs.write_hits.Given as goal

abbrev pub invariant-loop-i : goal.invariant-loop-i
invariant-loop-i l = (length l.store ≡ length l.initial.store)
    × Writing (hits_to l.targets l.b l.v l.first l.end) (hits_to l.targets l.b l.v l.i l.end) l.initial.store l.store
    l.at l.here
