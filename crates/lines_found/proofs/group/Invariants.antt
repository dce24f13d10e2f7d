-- The arrays hold the lines of the trips taken so far; with those that are left they come to the timetable's lines.
use mathlib.Core.Path.{◌≡◌}
use Prim.Native.Nat.{◌≤◌}
use lib.ListN.{length}
use Rattle.lines_found.specs.Taken.{OfLasts}
use Rattle.lines_found.proofs.GroupLaws.{Kept, Given}
use Rattle.lines_found.proofs.group.Given as goal

abbrev pub invariant-loop-k : goal.invariant-loop-k
invariant-loop-k l = (l.k ≤ l.trips) × (l.trips ≤ 256) × Given l.words l.order l.trips × (l.count ≤ l.k) ×
    (length l.numbers ≡ 256)
    × (length l.ends ≡ 256) × (length l.lasts ≡ 256)
    × (length l.chains ≡ 1024) × Kept l.words l.initial.numbers l.initial.ends l.numbers l.ends l.lasts l.count l.k ×
    OfLasts l.words l.lasts l.count l.chains
