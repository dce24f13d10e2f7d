-- The flags before index j have been counted.
use Rattle.store_tree.specs.Marks.{marks, marks_from}
use mathlib.Core.Path.{◌≡◌}
use Prim.Native.Nat.{◌≤◌, ◌+◌}
use lib.ListN.{length, drop}
use Rattle.store_tree.proofs.mark_count.Given as goal

abbrev pub invariant-loop-flag : goal.invariant-loop-flag
invariant-loop-flag l = (l.count ≤ l.flag-index)
    × (length (marks l.flags) ≡ l.count + length (marks_from (l.flag-index + 1) (drop l.flag-index l.flags)))
