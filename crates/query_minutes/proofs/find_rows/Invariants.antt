-- The rows so far and the minutes that lead among those left are together the minutes that lead. None leads after one
-- that has the least penalty of all.
use mathlib.Core.Path.{◌≡◌}
use Prim.Native.Nat.{◌≤◌, ◌+◌}
use lib.ListN.{length, drop}
use Rattle.query_minutes.specs.Minutes.{no_points, leads}
use Rattle.query_minutes.proofs.find_rows.Given as goal

abbrev pub invariant-loop-m : goal.invariant-loop-m
invariant-loop-m l = (l.count ≤ l.m)
    × (length (leads no_points 0 l.best) ≡ l.count + length (leads l.least.0 l.m (drop l.m l.best)))
