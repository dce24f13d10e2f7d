-- The times of the trips from place j on go to the words from here on; they end where the line ends.
use mathlib.Core.Path.{◌≡◌}
use Prim.Native.Nat.{◌≤◌, ◌+◌, ◌-◌, ◌*◌}
use lib.ListN.{length}
use Rattle.words.specs.Put.{put}
use Rattle.lines_turned.specs.Turned.{turned_trips, line_end}
use Rattle.lines_turned.proofs.write_trips.Given as goal

abbrev pub invariant-loop-j : goal.invariant-loop-j
invariant-loop-j l = (l.j ≤ l.l.trips)
    × (l.at + (l.l.trips - l.j) * (2 * l.l.positions) ≡ line_end l.l)
    × (length l.out ≡ length l.initial.out)
    × (put l.from (turned_trips l.lines l.from l.l.trips l.l.positions l.l.trips) l.initial.out
    ≡ put l.at (turned_trips l.lines (l.from + l.j) l.l.trips l.l.positions (l.l.trips - l.j)) l.out)
