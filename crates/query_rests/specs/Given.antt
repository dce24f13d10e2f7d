-- What is known of the words lent, and of the path to go along.
use Rattle.std.specs.Prelude.{◌≡◌, true, List, ℕ, ◌-◌, ◌*◌, ◌≤◌, ◌<◌, length, get_or}
use Rattle.timetable.specs.Words.{station_count, is_timetable}
use Rattle.lines_check.specs.Question10.{are_tables}

-- the first r numbers of a path are stations, of n
pub record Listed (n : ℕ) (path : List ℕ) (r : ℕ) : Type 0 where
  pub at : (i : ℕ) → i < r → (1 ≤ get_or path i 0) × (get_or path i 0 ≤ n)

-- what is known of the words lent, and of a path of r rides to the end of which one is to come by minute v: it names
-- the stations alighted and boarded at of each change, and then the end
pub record Given (w lines path : List ℕ) (r v : ℕ) : Type 0 where
  pub enough : 16384 ≤ length w
  pub accepted : is_timetable w ≡ true
  pub own : are_tables w lines ≡ true
  pub listed : Listed (station_count w) path (2 * r - 1)
  pub few : r ≤ 64
  pub long : 2 * r - 1 ≤ length path
  pub timely : v ≤ 2879
