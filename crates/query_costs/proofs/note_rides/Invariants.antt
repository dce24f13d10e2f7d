-- The rides noted so far, and then those that are left, make the same penalties as all of them. A ride that is left
-- fits its words, so that no sum overflows. Each minute noted is in the span.
use mathlib.Core.Path.{◌≡◌}
use Prim.Native.Nat.{◌≤◌}
use lib.ListN.{length}
use Rattle.std.specs.Prelude.{IfSome}
use Rattle.query_places.specs.Candidates.{near_read}
use Rattle.query_rides.specs.Riding.{Good, near_left}
use Rattle.query_minutes.specs.Minutes.{no_points}
use Rattle.query_costs.specs.Lowest.{lowest}
use Rattle.query_costs.specs.Spans.{Within}
use Rattle.query_costs.specs.Layering.{taken_all}
use Rattle.query_costs.specs.Fitting.{Fitting}
use Rattle.query_costs.proofs.note_rides.Given as goal

abbrev pub invariant-loop-next : goal.invariant-loop-next
invariant-loop-next l = IfSome l.next (Good l.lines)
    × Fitting (lowest no_points l.p) (near_left l.lines l.s.from l.next)
    × (length l.initial.best ≡ 2880)
    × (length l.best ≡ length l.initial.best)
    × Within l.noted l.initial.best l.best
    × (l.noted.from ≤ 2880)
    × (taken_all (lowest no_points l.p) l.change.minutes.0 l.change.points.0 l.initial.best
    (near_read l.lines l.from l.s.from l.to)
    ≡ taken_all (lowest no_points l.p) l.change.minutes.0 l.change.points.0 l.best (near_left l.lines l.s.from l.next))

abbrev pub decreases-loop-next : goal.decreases-loop-next
decreases-loop-next l = length (near_left l.lines l.s.from l.next)
