-- What is caught after the first k departures of the chain is kept, before place at.
use mathlib.Core.Path.{◌≡◌}
use Prim.Native.Nat.{◌≤◌}
use lib.ListN.{length, take}
use Rattle.store_departures.specs.Order.{chain as by_station}
use Rattle.store_departures.specs.Held.{Standing}
use Rattle.store_catches.proofs.KeepLaws.{KeptIn}
use Rattle.store_catches.proofs.keep_catches.Given as goal

abbrev pub invariant-loop-k : goal.invariant-loop-k
invariant-loop-k l = (l.n ≡ length (by_station l.words)) × (l.n ≤ 2048) × (4096 ≤ l.at) × (l.at ≤ 20480) ×
    Standing l.words l.chain l.first
    × KeptIn l.words (take l.k (by_station l.words)) l.at l.chain
