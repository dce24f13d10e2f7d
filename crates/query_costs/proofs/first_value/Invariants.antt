-- None of the minutes before m has a penalty, so the first that does is the first from m on.
use mathlib.Core.Path.{◌≡◌}
use Prim.Native.Nat.{◌-◌}
use lib.Dec.{ltb}
use lib.ListN.{get_or}
use Rattle.lists.specs.First.{first_from}
use Rattle.query_minutes.specs.Minutes.{no_points}
use Rattle.query_costs.specs.Layering.{first_value}
use Rattle.query_costs.proofs.first_value.Given as goal

abbrev pub invariant-loop-m : goal.invariant-loop-m
invariant-loop-m l = (first_value l.p ≡ first_from (λ k. ltb (get_or l.p k 0) no_points)
    l.m (2880 - l.m))
