-- The loop has written the numbers up to k.
use mathlib.Core.Path.{◌≡◌}
use Prim.Native.Nat.{◌≤◌, ◌-◌}
use lib.ListN.{length}
use Rattle.lists.specs.Lists.{range}
use Rattle.words.specs.Put.{put}
use Rattle.reading.proofs.count_trips.Given as goal

abbrev pub invariant-loop-k : goal.invariant-loop-k
invariant-loop-k l = (l.k ≤ 256) × (length l.numbers ≡ 256) × (l.numbers ≡ put 0 (range 1 l.k) l.initial.numbers)
