-- None of the walks before place k leads to the station, so the first that does is the first from k on.
use mathlib.Core.Path.{◌≡◌}
use Prim.Native.Nat.{◌-◌}
use lib.Dec.{eqb}
use Rattle.lists.specs.First.{first_from}
use Rattle.timetable.specs.Words.{walk_at}
use Rattle.timetable.specs.WalkTo.{walk_to}
use Rattle.timetable.proofs.walk_to.Given as goal

abbrev pub invariant-loop-k : goal.invariant-loop-k
invariant-loop-k l = walk_to l.words l.y l.x ≡ first_from (λ k. eqb (walk_at l.words k).to l.x) l.k (l.end - l.k)
