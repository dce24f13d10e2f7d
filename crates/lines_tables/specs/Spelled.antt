-- The lines of a timetable with a yes to question 9 are lines by its words: each has some trips, all of them trips of
-- the timetable, and each of these has as many stops as the line's first.
use Rattle.std.specs.Prelude.{◌≡◌, refl, true, ℕ, zero, suc, ◌+◌, ◌-◌, ◌≤◌, ◌<◌, length, get_or}
use Rattle.std.proofs.Common.{ap, ◌∙◌, arith}
use mathlib.Core.List.Memᴰ.{head as here}
use mathlib.Core.List.Memᴰ.{tail as there}
use mathlib.Core.List.{List, [], ◌∷◌}
use Rattle.lists.specs.Lists.{◌∈◌}
use Rattle.lists.specs.Members.{none}
use Rattle.timetable.specs.Timetable.{Trip}
use Rattle.timetable.specs.Words.{trip_count, start_at, timetable_of, is_timetable}
use Rattle.timetable.specs.Check.{length_trips}
use Rattle.timetable.specs.Access.{trip_is, trip_long, trip_stops_lem}
use Rattle.lines.specs.Lines.{lines, head_of}
use Rattle.lines.proofs.Ordered.{lines_good, line_length}
use Rattle.lines.specs.Once.{trip_listed}
use Rattle.lines_tables.specs.Model.{calls_of, LineOf, lines_at, AllLines}

pub within : {A : Type 0} (l : List A) (j : ℕ) (d : A) → j < length l → get_or l j d ∈ l
within [] j d h = absurd (omega arith)
within (x ∷ l) zero d h = here refl
within (x ∷ l) (suc j) d h = there (within l j d (omega arith))

some_member : (x : ℕ) (l : List ℕ) → x ∈ l → 0 < length l
some_member x [] m = none m
some_member x (y ∷ l) m = omega arith

module _ (w : List ℕ) (yes : is_timetable w ≡ true) where
  abbrev t : List Trip
  t = (timetable_of w).trips

  trip_length : (z : ℕ) → z < trip_count w → length (get_or t z []) ≡ start_at w (z + 1) - start_at w z
  trip_length z h = ap length (trip_is w z [] h) ∙ trip_long w z

  module _ (l : List ℕ) (listed : l ∈ lines t) where
    member_listed : (z : ℕ) → z ∈ l → z < trip_count w
    member_listed z m =
        omega (arith, length_trips w, trip_listed t z (record { line = l; listed = listed; member = m }))

    first_listed : head_of l < trip_count w
    first_listed = member_listed (head_of l) (lines_good t l listed).led

    member_long : (z : ℕ) → z ∈ l → start_at w z + calls_of w (head_of l) ≤ start_at w (z + 1)
    member_long z m =
        let h = member_listed z m in
        omega (
          arith,
          line_length t l z (lines_good t l listed) m,
          trip_length z h,
          trip_length (head_of l) first_listed,
          trip_stops_lem w yes z h,
        )

    line_spelled : LineOf w l
    line_spelled =
        record {
          some = some_member (head_of l) l (lines_good t l listed).led;
          first = first_listed;
          reaches =
              record {
                trips = λ j h. member_listed (get_or l j 0) (within l j 0 h);
                stops = λ j h. member_long (get_or l j 0) (within l j 0 h);
              };
        }

  pub all_lines : AllLines w (lines_at w)
  unfolding lines_at
  all_lines = record { at = λ i h. line_spelled (get_or (lines t) i []) (within (lines t) i [] h) }
