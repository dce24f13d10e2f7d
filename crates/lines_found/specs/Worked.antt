-- The lines of timetable M in the arrays: line 1 has trip 1, line 2 has trips 3 and 2. For a reader.
use Rattle.std.specs.Prelude.{◌≡◌, refl, [], ◌∷◌}
use Rattle.timetable.specs.Worked.{variant, M}
use Rattle.lines.specs.Lines.{in_order, lines}
use Rattle.lines.specs.Once.{on_lines}
use Rattle.lines_found.specs.Grouped.{ends_from}

pub numbers_of_M : on_lines (lines M.trips) ≡ 0 ∷ 2 ∷ 1 ∷ []
unfolding M variant lines in_order
numbers_of_M = refl

pub ends_of_M : ends_from 0 (lines M.trips) ≡ 1 ∷ 3 ∷ []
unfolding M variant lines in_order ends_from
ends_of_M = refl
