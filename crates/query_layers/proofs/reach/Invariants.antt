-- There is room for the rides up to before ride high.
use Prim.Native.Nat.{◌≤◌}
use Rattle.query_layers.specs.Layers.{place_of}
use Rattle.query_layers.proofs.reach.Given as goal

abbrev pub invariant-loop-high : goal.invariant-loop-high
invariant-loop-high l = (place_of l.minute l.v l.low l.high ≤ l.room)
