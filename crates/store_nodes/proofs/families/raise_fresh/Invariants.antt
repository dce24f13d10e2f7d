-- The flags below the place at hand are joined, and none of the fresh ones was up there unless it was seen.
use mathlib.Core.Path.{◌≡◌}
use Prim.Native.Nat.{◌≤◌}
use lib.ListN.{length}
use Rattle.store_nodes.specs.Joining.{Joining}
use Rattle.store_nodes.proofs.families.raise_fresh.Given as goal

abbrev pub invariant-loop-k : goal.invariant-loop-k
invariant-loop-k l = (l.k ≤ 320) × (length l.flags ≡ 320) × Joining l.k l.initial.flags l.fresh l.flags l.seen
