-- The words before index i are the same, so all depends on those from i on.
use mathlib.Core.Path.{◌≡◌}
use Prim.Native.Nat.{◌≤◌, ◌-◌}
use lib.ListN.{take, drop}
use Rattle.lists.specs.Lists.{before}
use Rattle.query_winner.proofs.words_before.Given as goal

abbrev pub invariant-loop-i : goal.invariant-loop-i
invariant-loop-i l = before (take l.n l.a) (take l.n l.b) ≡ before (drop l.i (take l.n l.a))
    (drop l.i (take l.n l.b))
