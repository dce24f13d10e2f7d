-- The siblings below the one at hand have been marked, and the labels of their parent are still there.
use mathlib.Core.Path.{◌≡◌}
use Prim.Native.Nat.{◌-◌, ◌≤◌, ◌<◌}
use lib.ListN.{length, get_or}
use Rattle.store_tree.specs.Tree.{parent_in}
use Rattle.store_nodes.specs.Standing.{ArcsAt, KidsAt}
use Rattle.store_nodes.specs.Hope.{StaysOn, ToldOn}
use Rattle.store_nodes.proofs.families.mark_kids.Given as goal

abbrev pub invariant-loop-parent : goal.invariant-loop-parent
invariant-loop-parent l = (1 ≤ l.v)
    × (l.lo ≤ l.v)
    × (l.node ≤ l.v)
    × (l.v < l.hi)
    × (length l.x ≡ 2048)
    × (length l.hand ≡ 66)
    × (length l.arcs ≡ 6144)
    × (length l.kids ≡ 30720)
    × (l.parent ≡ parent_in (get_or l.work l.v 0))
    × StaysOn l.words l.work l.parent l.c l.node l.v l.hope l.allowed l.q l.initial.x l.x l.initial.hand l.hand
    × ToldOn 64 (ArcsAt l.words) l.words l.work l.parent l.lo l.node l.v l.c l.initial.x l.hope l.allowed l.q
    l.initial.arcs l.arcs
    × ToldOn 320 (KidsAt l.words) l.words l.work l.parent l.lo l.node l.v l.c l.initial.x l.hope l.allowed l.q
    l.initial.kids l.kids

abbrev pub decreases-loop-parent : goal.decreases-loop-parent
decreases-loop-parent l = l.hi - l.v
