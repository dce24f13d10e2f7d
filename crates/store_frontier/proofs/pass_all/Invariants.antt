-- Backwards through the order: the departures from place p on were passed.
use mathlib.Core.Path.{◌≡◌}
use Prim.Native.Nat.{◌≤◌}
use lib.ListN.{length, drop}
use Rattle.store_departures.specs.Order.{order as departures}
use Rattle.store_frontier.specs.Passed.{Passed}
use Rattle.store_frontier.proofs.pass_all.Given as goal

abbrev pub invariant-loop-p : goal.invariant-loop-p
invariant-loop-p l = (l.begin ≤ l.p)
    × (l.p ≤ l.n)
    × (length l.q ≡ 2048)
    × (length l.leaving ≡ 2048)
    × (length l.high ≡ 65)
    × Passed l.words l.e l.d (drop l.p (departures l.words)) l.q l.leaving l.high
