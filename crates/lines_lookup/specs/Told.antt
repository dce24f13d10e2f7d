-- What line tables tell: where words hold the line tables of a timetable, what is looked up there is what the timetable
-- says. Callers go by these laws, never by the places of words.
use Rattle.std.specs.Prelude.{◌≡◌, List, [], ℕ, suc, ◌+◌, ◌%◌, ◌≤◌, ◌<◌, length, get_or, take}
use Rattle.std.proofs.Common.{arith}
use Rattle.std.proofs.Math.Seq.{slice}
use Rattle.timetable.specs.Timetable.{Timetable, number_of}
use Rattle.connections.specs.Rides.{no_stop, ride_points}
use Rattle.connections.proofs.RideLaws.{points_split}
use Rattle.lines.specs.Lines.{lines, course}
use Rattle.lines_tables.specs.Tables.{stop_of, call_word, total_on, call_pairs, table_words}
use Rattle.lines_lookup.specs.Lookup.{
  line_count,
  line_at,
  number_at,
  word_at,
  low_at,
  total_at,
  points_between,
  arrive_at,
  depart_at,
  calls_place,
}

-- the line at place i, whose trips are l
pub record LineTold (v : List ℕ) (t : Timetable) (i : ℕ) (l : List ℕ) : Type 0 where
  pub positions : (line_at v i).positions ≡ length (course t.trips l)
  pub trips : (line_at v i).trips ≡ length l
  pub number : (j : ℕ) → j < length l → number_at v (line_at v i) j ≡ number_of t (get_or l j 0)
  pub word : (p : ℕ) → p < length (course t.trips l)
      → word_at v (line_at v i) p ≡ call_word (get_or (course t.trips l) p no_stop)
  pub low : (p : ℕ) → p < length (course t.trips l)
      → low_at v (line_at v i) p ≡ total_on (course t.trips l) p % 65536
  pub total : (p : ℕ) → p < length (course t.trips l) → total_at v (line_at v i) p ≡ total_on (course t.trips l) p
  pub arrive : (p j : ℕ) → p < length (course t.trips l) → j < length l
      → arrive_at v (line_at v i) p j ≡ (stop_of t.trips (get_or l j 0) p).arrive
  pub depart : (p j : ℕ) → p < length (course t.trips l) → j < length l
      → depart_at v (line_at v i) p j ≡ (stop_of t.trips (get_or l j 0) p).depart

-- Document 02, Three: "The sum is to be shown equal to the old one, taken ride by ride, for every pair of stops": of
-- any line, the difference of two totals is the sum of the single penalties between them
pub ride_difference : (v : List ℕ) (t : Timetable) (i : ℕ) (l : List ℕ) → LineTold v t i l
    → (x y : ℕ) → x ≤ y → y < length (course t.trips l)
    → points_between v (line_at v i) x y ≡ ride_points (course t.trips l) x y
ride_difference v t i l told x y h g =
    omega (
      arith,
      told.total x (omega arith),
      told.total y g,
      points_split (course t.trips l) 0 x y (omega arith) h,
    )

-- the line tables of a timetable
pub record Told (v : List ℕ) (t : Timetable) : Type 0 where
  pub stations : get_or v 0 0 ≡ length t.stations
  pub line_count_lem : line_count v ≡ length (lines t.trips)
  pub trip_count_lem : get_or v 2 0 ≡ length t.trips
  pub line : (i : ℕ) → i < length (lines t.trips) → LineTold v t i (get_or (lines t.trips) i [])
  pub calls : (s : ℕ) → s < length t.stations
      → slice (calls_place v s) (calls_place v (s + 1)) v ≡ call_pairs t.trips (suc s)

-- the words begin with those of the line tables: "no question judges the words past a table"
pub record Holds (v : List ℕ) (t : Timetable) : Type 0 where
  pub is : take (length (table_words t)) v ≡ table_words t
