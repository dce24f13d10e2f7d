-- The walks before k are valid and rise, so that all do exactly if those from k on do.
use mathlib.Core.Path.{◌≡◌}
use Rattle.timetable.specs.Timetable.{valid_walks}
use Rattle.timetable.specs.Check.{walks_at}
use Rattle.timetable_check.proofs.walks_are_valid.Given as goal

abbrev pub invariant-loop-k : goal.invariant-loop-k
invariant-loop-k l = valid_walks l.n (walks_at l.words 0 l.walks) ≡ valid_walks l.n (walks_at l.words l.k l.walks)
