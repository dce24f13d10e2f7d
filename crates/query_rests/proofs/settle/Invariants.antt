-- From word m on each word is the least from there on, and `low` is the least of all those. Behind minute v there is
-- nothing to settle.
use mathlib.Core.Path.{◌≡◌}
use Prim.Native.Nat.{◌≤◌}
use lib.ListN.{length, drop}
use Rattle.query_minutes.specs.Minutes.{no_points}
use Rattle.query_rests.specs.Settling.{least, settled_from}
use Rattle.query_rests.proofs.settle.Given as goal

abbrev pub invariant-loop-m : goal.invariant-loop-m
invariant-loop-m l = (l.minute ≤ l.m)
    × (length l.z ≡ 2880)
    × (l.z ≡ settled_from no_points l.m l.initial.z)
    × (l.low.0 ≡ least no_points (drop l.m l.initial.z))
