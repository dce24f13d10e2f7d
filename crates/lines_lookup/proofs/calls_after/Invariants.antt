-- The calls passed over do not stand after the call; the rest begins with the first that does.
use mathlib.Core.Path.{◌≡◌}
use Prim.Native.Nat.{◌≤◌, ◌-◌}
use Rattle.lines_lookup.specs.Calls.{calls_in, after}
use Rattle.lines_lookup.proofs.calls_after.Given as goal

abbrev pub invariant-loop-k : goal.invariant-loop-k
invariant-loop-k l = (l.k ≤ 65536)
    × (after l.c (calls_in l.v (record { from = l.initial.k; end = l.end })) ≡ after l.c
    (calls_in l.v (record { from = l.k; end = l.end })))

abbrev pub decreases-loop-k : goal.decreases-loop-k
decreases-loop-k l = l.end - l.k
