-- The lines of timetable M: trips 3 and 2 share one, and part where one would overtake the other. For a reader.
use Rattle.std.specs.Prelude.{◌≡◌, refl, [], ◌∷◌, length}
use Rattle.timetable.specs.Worked.{variant, M}
use Rattle.lines.specs.Lines.{in_order, lines, line_numbers, calls}

pub case_e : line_numbers M ≡ (1 ∷ []) ∷ (3 ∷ 2 ∷ []) ∷ []
unfolding M variant lines in_order
case_e = refl

pub case_f : length (lines (variant 3 514).trips) ≡ 3
unfolding variant lines in_order
case_f = refl

-- station 2 is met on line 1 at position 2 and on line 2 at position 1
pub calls_at_2 : calls M.trips 2 ≡ (1 ∷ 2 ∷ []) ∷ (2 ∷ 1 ∷ []) ∷ []
unfolding M variant lines in_order calls
calls_at_2 = refl
