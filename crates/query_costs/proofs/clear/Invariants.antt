-- The words before m are blank, and those behind the span.
use mathlib.Core.Path.{◌≡◌}
use Prim.Native.Nat.{◌≤◌}
use lib.ListN.{length}
use Rattle.query_minutes.specs.Minutes.{blank}
use Rattle.query_costs.specs.Spans.{Within}
use Rattle.query_costs.proofs.clear.Given as goal

abbrev pub invariant-loop-m : goal.invariant-loop-m
invariant-loop-m l = (length l.p ≡ 2880) × (l.fn.s.to ≤ 2880)
    × Within (record { from = l.m; to = l.fn.s.to }) blank l.p
