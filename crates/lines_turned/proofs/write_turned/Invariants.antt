-- What is written is the beginning of all words: the front, then line after line, then the lists of stations.
use mathlib.Core.Path.{◌≡◌}
use Prim.Native.Nat.{◌≤◌, ◌-◌}
use lib.ListN.{length, drop}
use Rattle.words.specs.Put.{put}
use Rattle.timetable.specs.Words.{timetable_of}
use Rattle.lines_turned.specs.ByTrip.{words_by_trip}
use Rattle.lines_turned.specs.Laid.{line_start}
use Rattle.lines_turned.proofs.write_turned.Given as goal

abbrev pub invariant-loop-i : goal.invariant-loop-i
invariant-loop-i l = let t = timetable_of l.words in
    let whole = words_by_trip t in
    (l.i ≤ l.count)
    × (length l.other ≡ length l.initial.other)
    × (16384 ≤ length l.other)
    × (put (line_start t 0) (drop (line_start t 0) whole) l.initial.other ≡ put (line_start t l.i)
    (drop (line_start t l.i) whole) l.other)
