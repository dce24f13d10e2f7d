-- The rides noted so far, and then those that the cursor has left, make the same words as all to the nearest places.
use mathlib.Core.Path.{◌≡◌}
use lib.ListN.{length}
use Rattle.std.specs.Prelude.{IfSome}
use Rattle.query_places.specs.Candidates.{near_read}
use Rattle.query_minutes.specs.Minutes.{note_all}
use Rattle.query_rides.specs.Riding.{Good, near_left}
use Rattle.query_rests.specs.Stepping.{catches}
use Rattle.query_rests.proofs.gather.Given as goal

abbrev pub invariant-loop-next : goal.invariant-loop-next
invariant-loop-next l = IfSome l.next (Good l.lines)
    × (length l.z ≡ length l.initial.z)
    × (note_all l.initial.z (catches l.change.minutes.0 l.change.points.0 l.old
    (near_read l.lines l.from l.minute l.to))
    ≡ note_all l.z (catches l.change.minutes.0 l.change.points.0 l.old (near_left l.lines l.minute l.next)))

abbrev pub decreases-loop-next : goal.decreases-loop-next
decreases-loop-next l = length (near_left l.lines l.minute l.next)
