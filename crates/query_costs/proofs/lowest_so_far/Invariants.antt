-- The first m penalties are lowered, and the others of the span will be, from the least so far on.
use mathlib.Core.List.{◌++◌}
use mathlib.Core.Path.{◌≡◌}
use Prim.Native.Nat.{◌≤◌}
use lib.ListN.{length, take, drop}
use Rattle.query_minutes.specs.Minutes.{no_points}
use Rattle.query_costs.specs.Lowest.{lowest}
use Rattle.query_costs.proofs.lowest_so_far.Given as goal

abbrev pub invariant-loop-m : goal.invariant-loop-m
invariant-loop-m l = (l.m ≤ l.fn.s.to)
    × (l.fn.s.to ≤ 2880)
    × (l.least.0 ≤ no_points)
    × (length l.p ≡ 2880)
    × (drop l.fn.s.to l.p ≡ drop l.fn.s.to l.initial.p)
    × (lowest no_points l.initial.p ≡ take l.m l.p ++ lowest l.least.0 (drop l.m l.p))
