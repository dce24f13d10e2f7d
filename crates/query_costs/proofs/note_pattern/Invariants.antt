-- The words held are those of one who is ready at the present station, from the first minute on that the last step
-- answered. Before the last ride they give what is promised; if no one is ready, no connection has the pattern.
use mathlib.Core.Path.{◌≡◌}
use Prim.Native.Nat.{◌≤◌, ◌<◌}
use lib.ListN.{length}
use Rattle.timetable.specs.Words.{timetable_of}
use Rattle.connections.specs.Connections.{net}
use Rattle.query_minutes.specs.Minutes.{no_points, blank}
use Rattle.query_costs.specs.Lowest.{lowest}
use Rattle.query_costs.specs.Falling.{Falls}
use Rattle.query_costs.specs.Turning.{held, spare}
use Rattle.query_costs.specs.Readies.{Ready}
use Rattle.query_costs.specs.Patterns.{changes_to}
use Rattle.query_costs.specs.Onward.{Listed}
use Rattle.query_costs.proofs.note_pattern.Given as goal

abbrev pub invariant-loop-j : goal.invariant-loop-j
invariant-loop-j l = (l.j < l.r)
    × (length l.p ≡ 2880)
    × (length l.q ≡ 2880)
    × (length l.best ≡ 2880)
    × (l.best ≡ l.initial.best)
    × Listed l.words l.from
    × Falls l.s (held l.turned l.p l.q)
    × (spare l.turned l.p l.q ≡ blank)
    × Ready (net (timetable_of l.words)) l.source l.minute (changes_to l.path l.j) l.from l.s.from
    (lowest no_points (held l.turned l.p l.q))
    × (l.r ≤ 64)
    × (length l.initial.p ≡ 2880)
    × (length l.initial.q ≡ 2880)
    × (length l.initial.best ≡ 2880)
