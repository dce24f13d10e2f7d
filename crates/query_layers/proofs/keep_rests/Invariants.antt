-- What is left is kept for the rides from ride j on; that behind the ride before it has been found.
use mathlib.Core.Path.{◌≡◌}
use Prim.Native.Nat.{◌-◌, ◌<◌}
use lib.ListN.{length}
use Rattle.query_rests.specs.Spans.{Spans}
use Rattle.query_layers.specs.Layers.{Layers}
use Rattle.query_rests.proofs.PatternLaws.{Back}
use Rattle.query_layers.proofs.keep_rests.Given as goal

abbrev pub invariant-loop-j : goal.invariant-loop-j
invariant-loop-j l = Back l.words l.path l.r l.sought.arrive l.sought.minute l.kept.low (l.j - 1) l.z
    × (l.kept.low < l.j)
    × Layers l.words l.path l.r l.sought.arrive l.sought.minute l.kept.low l.j l.kept.high l.work
    × (length l.work ≡ length l.initial.work)
    × Spans l.sought.minute l.sought.arrive l.z
    × Spans l.sought.minute l.sought.arrive l.old
