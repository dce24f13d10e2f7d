-- What is left goes to the words from index k on.
use mathlib.Core.Path.{◌≡◌}
use Prim.Native.Nat.{◌≤◌, ◌-◌}
use lib.ListN.{length}
use lib.Seq.{slice}
use Rattle.words.specs.Put.{put}
use Rattle.lines_turned.proofs.copy_part.Given as goal

abbrev pub invariant-loop-k : goal.invariant-loop-k
invariant-loop-k l = (l.from ≤ l.k)
    × (l.k ≤ l.end)
    × (length l.out ≡ length l.initial.out)
    × (put l.from (slice l.from l.end l.lines) l.initial.out ≡ put l.k (slice l.k l.end l.lines) l.out)
