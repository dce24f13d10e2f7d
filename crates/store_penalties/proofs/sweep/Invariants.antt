-- The first x departures of the order are done.
use mathlib.Core.Path.{◌≡◌}
use lib.ListN.{length, take}
use Rattle.store_penalties.specs.Swept.{Swept}
use Rattle.store_penalties.specs.Arranged.{departures}
use Rattle.store_penalties.proofs.sweep.Given as goal

abbrev pub invariant-loop-x : goal.invariant-loop-x
invariant-loop-x l = (length l.v ≡ length l.initial.v)
    × (length l.q ≡ length l.initial.q)
    × (length l.low ≡ length l.initial.low)
    × Swept l.words l.source l.d (take l.x (departures l.words)) l.v l.q l.low
