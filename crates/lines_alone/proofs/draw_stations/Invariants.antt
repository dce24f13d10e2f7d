-- Two words for each station.
use mathlib.Core.Path.{◌≡◌}
use Prim.Native.Nat.{◌≤◌}
use lib.ListN.{length, replicate}
use Rattle.words.specs.Put.{put}
use Rattle.timetable.specs.Words.{station_words}
use Rattle.lines_alone.specs.Drawn.{plain_station}
use Rattle.lines_alone.proofs.draw_stations.Given as goal

abbrev pub invariant-loop-i : goal.invariant-loop-i
invariant-loop-i l = (l.i ≤ l.n) × (length l.body ≡ length l.initial.body) ×
    (l.body ≡ put 0 (station_words (replicate l.i plain_station)) l.initial.body)
