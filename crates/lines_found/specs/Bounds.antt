-- What a caller may rely on about the lines of a timetable: there are no more than trips, none is empty, and together
-- they hold each trip once, so that the last line ends with the last trip.
use Rattle.std.specs.Prelude.{◌≡◌, ℕ, ◌+◌, ◌≤◌, length}
use Rattle.std.proofs.Common.{ap, ◌∙◌, arith}
use mathlib.Core.List.{List, [], ◌∷◌, map}
use Rattle.timetable.specs.Timetable.{Trip}
use Rattle.timetable.specs.Words.{timetable_of}
use Rattle.lines.specs.Lines.{last_of, add_trip, add_trips, in_order, lines}
use Rattle.lines.specs.Once.{on_lines}
use Rattle.lines_order.specs.Steps.{first_place, length_inserted}
use Rattle.lines_order.specs.Order.{length_order}
use Rattle.lines_found.specs.Joined.{end_at, joinable, add_joins, numbers_join, length_join}

module _ (t : List Trip) where
  abbrev line_for : (z : ℕ) → List (List ℕ) → ℕ
  line_for z ls = first_place (joinable t z) (map last_of ls)

  -- each trip adds one to the trips on the lines, and a line at most
  trips_added : (zs : List ℕ) (ls : List (List ℕ))
      → length (on_lines (add_trips t zs ls)) ≡ length zs + length (on_lines ls)
  trips_added [] ls = omega arith
  trips_added (z ∷ zs) ls =
      let i = line_for z ls in
      let one = ap length (ap on_lines (add_joins t z ls) ∙ numbers_join i z ls) in
      omega (arith, trips_added zs (add_trip t z ls), one, length_inserted (end_at i ls) z (on_lines ls))

  lines_added : (zs : List ℕ) (ls : List (List ℕ)) → length (add_trips t zs ls) ≤ length zs + length ls
  lines_added [] ls = omega arith
  lines_added (z ∷ zs) ls =
      let i = line_for z ls in
      omega (arith, lines_added zs (add_trip t z ls), ap length (add_joins t z ls), length_join i z ls)

module _ (t : List Trip) where
  -- of any trips: all of them stand on the lines, and there are no more lines than trips
  pub all_on_lines : length (on_lines (lines t)) ≡ length t
  unfolding lines
  all_on_lines = omega (arith, trips_added t (in_order t) [], length_order t)

  pub no_more_lines : length (lines t) ≤ length t
  unfolding lines
  no_more_lines = omega (arith, lines_added t (in_order t) [], length_order t)

module _ (w : List ℕ) where
  abbrev t : List Trip
  t = (timetable_of w).trips
