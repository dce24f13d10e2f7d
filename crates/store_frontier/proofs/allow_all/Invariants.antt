-- Station by station: those before station c are done, and the words of all others are as they were.
use mathlib.Core.Path.{◌≡◌}
use Prim.Native.Nat.{◌≤◌}
use lib.ListN.{length}
use Rattle.store_frontier.specs.Allowing.{Allowing}
use Rattle.store_frontier.proofs.allow_all.Given as goal

abbrev pub invariant-loop-c : goal.invariant-loop-c
invariant-loop-c l = (1 ≤ l.c) × ((length l.v ≡ length l.initial.v) × Allowing l.words l.source l.initial.v l.c l.v)
