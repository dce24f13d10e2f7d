-- The nodes below the one at hand have been marked, and what is noted is at hand.
use mathlib.Core.Path.{◌≡◌}
use Prim.Native.Nat.{◌≤◌, ◌-◌}
use lib.ListN.{length}
use Rattle.store_nodes.specs.Standing.{ArcsAt, KidsAt}
use Rattle.store_nodes.specs.Hand.{AtHand, IdleOn}
use Rattle.store_nodes.specs.Chunk.{Raised}
use Rattle.store_nodes.proofs.families.mark_nodes.Given as goal

abbrev pub invariant-loop-node : goal.invariant-loop-node
invariant-loop-node l = (l.lo ≤ l.node)
    × (l.node ≤ l.hi)
    × (length l.x ≡ 2048)
    × (length l.hand ≡ 66)
    × (length l.arcs ≡ 6144)
    × (length l.kids ≡ 30720)
    × AtHand l.words l.source l.d l.hand l.x
    × IdleOn l.words l.source l.d l.lo l.node l.initial.hand l.hand
    × Raised 64 (ArcsAt l.words l.source l.d) l.lo l.node l.initial.arcs l.arcs
    × Raised 320 (KidsAt l.words l.source l.d) l.lo l.node l.initial.kids l.kids

abbrev pub decreases-loop-node : goal.decreases-loop-node
decreases-loop-node l = l.hi - l.node
