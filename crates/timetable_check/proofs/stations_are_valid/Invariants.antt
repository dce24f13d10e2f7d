-- The stations before i are valid, so that all are valid exactly if those from i on are.
use mathlib.Core.Path.{◌≡◌}
use Rattle.timetable.specs.Timetable.{valid_stations}
use Rattle.timetable.specs.Check.{stations_at}
use Rattle.timetable_check.proofs.stations_are_valid.Given as goal

abbrev pub invariant-loop-i : goal.invariant-loop-i
invariant-loop-i l = valid_stations (stations_at l.words 0 l.n) ≡ valid_stations (stations_at l.words l.i l.n)
