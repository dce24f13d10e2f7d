-- What code holds of changes: for each arrival the departure caught by a change at its station, and a way of changing.
use Rattle.std.specs.Prelude.{◌≡◌, Bool, true, List, ℕ, suc, ◌≤◌, ◌<◌, length, get_or}
use Rattle.lists.specs.Lists.{◌∈◌}
use Rattle.timetable.specs.Timetable.{Walk}
use Rattle.connections.specs.Connections.{on_foot}
use Rattle.store_stops.specs.Stopwise.{ways_of, Goes}
use Rattle.store_departures.specs.Order.{catch}
use Rattle.store_marks.specs.Riding.{staying}

-- the departure caught after each arrival by a change at its station
pub record Changes (w caught : List ℕ) : Type 0 where
  pub caught_long : length caught ≡ 2048
  pub caught_is : (i : ℕ) → Goes w i → get_or caught (suc i) 0 ≡ catch w (suc i)

-- the stops at places begin up to end have words in x
abbrev pub Inside : (l : List ℕ) (begin end : ℕ) (x : List ℕ) → Type 0
Inside l begin end x = (k : ℕ) → begin ≤ k → k < end → get_or l k 0 < length x

-- a way of changing of the timetable, which is told if it is one at a station itself
pub record Way (w : List ℕ) (own : Bool) (way : Walk) : Type 0 where
  pub listed : on_foot way ∈ ways_of w
  pub stays : own ≡ true → way ≡ staying w way.from
