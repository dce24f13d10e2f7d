-- The stops of each trip behind those of the trips before it, and beside them where each trip begins.
use mathlib.Core.Path.{◌≡◌}
use Prim.Native.Nat.{◌≤◌, ◌-◌}
use lib.ListN.{length}
use Rattle.words.specs.Put.{put}
use Rattle.timetable.specs.Timetable.{stops_of}
use Rattle.timetable.specs.Words.{stop_words, start_words}
use Rattle.lines_alone.specs.Drawn.{drawn_trips}
use Rattle.lines_alone.proofs.draw_trips.Given as goal

abbrev pub invariant-loop-z : goal.invariant-loop-z
invariant-loop-z l = (l.z ≤ l.trips)
    × (l.count ≤ 2048)
    × (length l.body ≡ length l.initial.body)
    × (length l.starts ≡ 257)
    × (l.count ≡ length (stops_of (drawn_trips l.v 0 l.z)))
    × (l.body ≡ put l.at (stop_words (stops_of (drawn_trips l.v 0 l.z))) l.initial.body)
    × (l.starts ≡ put 0 (start_words 0 (drawn_trips l.v 0 l.z)) l.initial.starts)
