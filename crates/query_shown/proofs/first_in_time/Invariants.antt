-- The rides written so far begin the connection that is shown; with no ride left they are it. Only the first ride can
-- fail to be found.
use mathlib.Core.Path.{◌≡◌}
use Prim.Native.Nat.{◌≤◌}
use lib.ListN.{length}
use Rattle.query_rests.specs.Spans.{Spans}
use Rattle.query_layers.specs.Layers.{Keeps}
use Rattle.query_shown.proofs.WayLaws.{Onward}
use Rattle.query_shown.proofs.first_in_time.Given as goal

abbrev pub invariant-loop-i : goal.invariant-loop-i
invariant-loop-i l = Onward l.words l.lines l.path l.r l.sought.arrive l.sought.source l.sought.minute l.depart
    l.initial.rides l.initial.at l.i l.rides l.at
    × Keeps l.words l.path l.r l.sought.arrive l.sought.minute l.i l.kept l.work
    × (l.r ≤ 64)
    × (2880 ≤ length l.work)
    × (length l.work ≡ length l.initial.work)
    × (l.sought.minute ≤ l.sought.arrive)
    × Spans l.sought.minute l.sought.arrive l.z
    × Spans l.sought.minute l.sought.arrive l.old
