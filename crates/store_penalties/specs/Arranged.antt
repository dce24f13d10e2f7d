-- What the pass goes by: the departures in their order, and for each arrival the departure that it catches.
use Rattle.std.specs.Prelude.{◌≡◌, true, List, ℕ, suc, length, get_or, take}
use Rattle.timetable.specs.Words.{is_timetable}
use Rattle.store_stops.specs.Stopwise.{Goes}
use Rattle.store_stops.specs.Settled.{Timely}
use Rattle.store_departures.specs.Order.{order, catch, InOrder}

-- the departures in their order, by another name than that of the slice that holds them
abbrev pub departures : List ℕ → List ℕ
departures = order

-- listed has the departures in front, and caught at its place the departure that an arrival catches
pub record Arranged (w listed caught : List ℕ) : Type 0 where
  pub timetable : is_timetable w ≡ true
  pub timely : Timely w
  pub ordered : InOrder w
  pub departs : take (length (departures w)) listed ≡ departures w
  pub catches : (i : ℕ) → Goes w i → get_or caught (suc i) 0 ≡ catch w (suc i)
