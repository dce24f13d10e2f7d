-- The words of the first b places are those of no line.
use mathlib.Core.Path.{◌≡◌}
use Prim.Native.Nat.{◌≤◌}
use lib.ListN.{length}
use Rattle.lines_found.specs.Taken.{OpenedTo}
use Rattle.lines_found.proofs.open_chains.Given as goal

abbrev pub invariant-loop-b : goal.invariant-loop-b
invariant-loop-b l = (l.b ≤ 256) × (length l.chains ≡ 1024) × OpenedTo l.b l.chains
