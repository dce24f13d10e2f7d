-- The counts before station y stand, one behind the other.
use mathlib.Core.Path.{◌≡◌}
use lib.ListN.{take}
use Rattle.words.specs.Put.{put}
use Rattle.timetable.specs.Words.{foot_words, walks_in}
use Rattle.timetable_writing.proofs.write_feet.Given as goal

abbrev pub invariant-loop-y : goal.invariant-loop-y
invariant-loop-y l =
    l.timetable ≡ put l.at (take l.y (foot_words l.stations (walks_in l.walking 0 l.walks))) l.initial.timetable
