-- The nodes below v have been taken.
use mathlib.Core.Path.{◌≡◌}
use Prim.Native.Nat.{◌+◌, ◌≤◌}
use lib.ListN.{length}
use Rattle.store_growth.specs.Chunks.{Underway}
use Rattle.store_growth.proofs.tree.take_chunk.Given as goal

abbrev pub invariant-loop-v : goal.invariant-loop-v
invariant-loop-v l = (l.hi ≤ l.lo + 96)
    × (length l.arcs ≡ 6144)
    × (length l.kids ≡ 30720)
    × (length l.work ≡ length l.initial.work)
    × (length l.targets ≡ length l.initial.targets)
    × Underway l.list l.initial.work l.initial.targets l.nodes l.ends l.lo l.hi l.arcs l.kids l.work l.targets l.n l.m
    l.v
