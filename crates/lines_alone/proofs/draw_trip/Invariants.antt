-- One stop for each position of the line; the low word of its total is at hand.
use mathlib.Core.List.{map}
use mathlib.Core.Path.{◌≡◌}
use Prim.Native.Nat.{◌≤◌, ◌<◌}
use lib.ListN.{length}
use Rattle.words.specs.Put.{put}
use Rattle.lists.specs.Lists.{range}
use Rattle.timetable.specs.Words.{stop_words}
use Rattle.lines_lookup.specs.Lookup.{low_at}
use Rattle.lines_alone.specs.Drawn.{stop_on}
use Rattle.lines_alone.proofs.draw_trip.Given as goal

abbrev pub invariant-loop-p : goal.invariant-loop-p
invariant-loop-p l = (l.p ≤ l.home.line.positions)
    × (length l.body ≡ length l.initial.body)
    × (l.here < 65536)
    × (l.here ≡ low_at l.v l.home.line l.p)
    × (l.body ≡ put l.at (stop_words (map (stop_on l.v l.home) (range 0 l.p))) l.initial.body)
