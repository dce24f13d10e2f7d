-- After k turns the array holds what is caught after the first k departures of the chain.
use mathlib.Core.Path.{◌≡◌}
use Prim.Native.Nat.{◌≤◌}
use lib.ListN.{length, take}
use Rattle.store_departures.specs.Order.{chain as by_station}
use Rattle.store_catches.proofs.CatchLaws.{CaughtIn}
use Rattle.store_catches.proofs.find_catches.Given as goal

abbrev pub invariant-loop-k : goal.invariant-loop-k
invariant-loop-k l = (l.n ≡ length (by_station l.words)) × (l.n ≤ 2048) × (length l.catches ≡ 2048)
    × CaughtIn l.words (take l.k (by_station l.words)) l.catches
