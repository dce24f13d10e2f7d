-- The targets that the flags before index j mark have been listed.
use Rattle.store_tree.specs.Marks.{marks, marks_from}
use Rattle.store_slots.specs.Writing.{Writing}
use mathlib.Core.Path.{◌≡◌}
use Prim.Native.Nat.{◌+◌}
use lib.ListN.{length, drop}
use Rattle.store_tree.proofs.put_targets.Given as goal

abbrev pub invariant-loop-j : goal.invariant-loop-j
invariant-loop-j l = (length l.targets ≡ length l.initial.targets)
    × Writing (marks l.arcs) (marks_from (l.j + 1) (drop l.j l.arcs)) l.initial.targets l.targets l.m l.here
