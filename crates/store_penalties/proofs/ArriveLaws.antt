-- A stop and its station as the code reads them, and what it makes of them.
use mathlib.Core.Path.{◌≡◌, ap, subst, ◌∙◌}
use mathlib.Core.Bool.{Bool}
use mathlib.Core.List.{List}
use Prim.Native.Nat.{ℕ, ◌≤◌, min}
use native.Mathlib.Omega.{arith}
use lib.ListN.{get_or, set}
use Rattle.timetable.specs.Timetable.{Stop}
use Rattle.timetable.specs.Words.{station_count, stop_at}
use Rattle.connections.specs.Rides.{may_board}
use Rattle.store_stops.specs.Stopwise.{station, change_points, stay, unreached}
use Rattle.store_stops.specs.OpenWays.{Open}
use Rattle.store_departures.specs.Order.{catch_by}
use Rattle.store_points.specs.Lowered.{lowered}
use Rattle.store_penalties.specs.Boarding.{boarding}
use Rattle.store_penalties.specs.Offering.{Offering}

-- the points were read from these words
pub waits : (low low' : List ℕ) (c x g : ℕ) → low' ≡ lowered c x low → x ≡ g → low' ≡ lowered c g low
waits low low' c x g is e = is ∙ ap (λ z. lowered c z low) e

pub boards : (o : Bool) (s : Stop) (a c r stay change g h : ℕ) → r ≡ boarding o a c stay change → o ≡ may_board s
    → stay ≡ g → change ≡ h → r ≡ boarding (may_board s) a c g h
boards o s a c r stay change g h is opens e f = rw (is, opens, e, f)

-- the station of the stop
module _ (w : List ℕ) (j : ℕ) (s : Stop) (is : s ≡ stop_at w j) where
  pub station_some : 1 ≤ station w j → 1 ≤ s.station
  station_some h = rw is h

  pub station_few : station w j ≤ station_count w → s.station ≤ station_count w
  station_few h = rw is h

  pub station_is : station w j ≡ s.station
  station_is = rw is

  pub station_cheap : change_points w (station w j) ≤ 1000 → change_points w s.station ≤ 1000
  station_cheap h = rw is h

  pub station_caught : (caught : List ℕ) → get_or caught j 0 ≡ catch_by w (stay w (station w j)) j
      → get_or caught j 0 ≡ catch_by w (stay w s.station) j
  station_caught caught h = rw is h

-- the points on arrival
module _ (p u : ℕ) (least : u ≡ min unreached p) where
  pub paid_most : u ≤ unreached
  paid_most = omega (arith, least)

  pub arrived : (v v' : List ℕ) (j : ℕ) → v' ≡ set v j u → v' ≡ set v j (min unreached p)
  arrived v v' j is = is ∙ ap (λ x. set v j x) least

  pub offered : (w : List ℕ) (j : ℕ) (q q' : List ℕ) → Offering w j u (Open w j) q q'
      → Offering w j (min unreached p) (Open w j) q q'
  offered w j q q' = subst (λ z. Offering w j z (Open w j) q q') least
