-- What a pass over the departures may rely on: the words are a timetable, and its departures stand in an array in their
-- order, with the departure that each arrival catches beside them.
use Rattle.std.specs.Prelude.{◌≡◌, true, List, ℕ, suc, ◌≤◌, length, get_or, take}
use Rattle.timetable.specs.Words.{is_timetable}
use Rattle.store_stops.specs.Stopwise.{Goes}
use Rattle.store_stops.specs.Settled.{Timely}
use Rattle.store_departures.specs.Order.{order, catch, InOrder}

-- the array has for each arrival the first departure that a change at the station itself reaches
abbrev pub Caught : (w first : List ℕ) → Type 0
Caught w first = (i : ℕ) → Goes w i → get_or first (suc i) 0 ≡ catch w (suc i)

pub record Routes (w departures : List ℕ) (n : ℕ) (first : List ℕ) : Type 0 where
  pub long : 16384 ≤ length w
  pub accepted : is_timetable w ≡ true
  pub timely : Timely w
  pub ordered : InOrder w
  pub departing : take n departures ≡ order w
  pub within : n ≤ length departures
  pub caught : Caught w first
  pub long_first : length first ≡ 2048
