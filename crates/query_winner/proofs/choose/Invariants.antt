-- The winner of the arcs so far is the one that goes before all others of its cost along them.
use mathlib.Core.Path.{◌≡◌}
use Prim.Native.Nat.{◌≤◌, ◌-◌}
use lib.ListN.{length}
use Rattle.query_winner.specs.Trying.{Sized, Tried}
use Rattle.query_winner.proofs.choose.Given as goal

abbrev pub invariant-loop-k : goal.invariant-loop-k
invariant-loop-k l = (length l.tried ≡ 192)
    × (length l.shown ≡ 192)
    × (length l.work ≡ length l.initial.work)
    × Sized l.x
    × Tried l.words l.store l.asked.from l.asked.to l.asked.minute l.row.arrive l.row.points.0 l.k l.x l.shown
