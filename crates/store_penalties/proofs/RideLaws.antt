-- A ride as the code takes it: s is the stop where it begins.
use mathlib.Core.Path.{◌≡◌, sym}
use mathlib.Core.Bool.{true}
use mathlib.Core.List.{List}
use Prim.Native.Nat.{ℕ, suc, ◌+◌, ◌^◌, ◌≤◌, ◌<◌, min}
use native.Mathlib.Numerals.{add-one}
use native.Mathlib.Omega.{arith}
use lib.ListN.{length, get_or, set}
use Rattle.timetable.specs.Timetable.{Stop}
use Rattle.timetable.specs.Words.{station_count, stop_at, is_timetable}
use Rattle.connections.specs.Rides.{may_board}
use Rattle.store_stops.specs.Stopwise.{station, change_points, stay, unreached, Arrival}
use Rattle.store_stops.specs.OpenWays.{Open}
use Rattle.store_departures.specs.Order.{catch_by}
use Rattle.store_points.specs.Lowered.{lowered}
use Rattle.store_penalties.specs.Boarding.{boarding}
use Rattle.store_penalties.specs.Offering.{Offering}
use Rattle.store_penalties.specs.Swept.{Turned}
use Rattle.store_penalties.specs.Riding.{Departing, unboarded, boarded}

module _ (w caught : List ℕ) (i : ℕ) (v q : List ℕ) (r : Departing w caught i v q) where
  -- ---- the places of the slices, and the sums
  pub read_at : (l : List ℕ) → 2048 ≤ length l → i < length l
  read_at l h = omega (arith, r.timely.few i r.goes, r.timely.stops)

  pub next_few : i + 1 < 2048
  next_few = omega (arith, r.timely.few i r.goes, r.timely.stops)

  pub next_fits : i + 1 < 2 ^ 64
  next_fits = omega (arith, next_few)

  pub next_some : 1 ≤ station w (i + 1)
  next_some = rw (add-one i) (r.timely.next_first i r.goes)

  pub next_most : station w (i + 1) ≤ station_count w
  next_most = rw (add-one i) (r.timely.next_listed i r.goes)

  pub next_arrives : Arrival w (i + 1)
  next_arrives = record { i = i; goes = r.goes; is = sym (add-one i) }

  pub next_caught : get_or caught (i + 1) 0 ≡ catch_by w (stay w (station w (i + 1))) (i + 1)
  next_caught = rw (add-one i) r.catches

  pub accepted : is_timetable w ≡ true
  accepted = r.accepted

  pub next_cheap : change_points w (station w (i + 1)) ≤ 1000
  next_cheap =
      rw (add-one i)
      (r.timely.most
      (station w (suc i))
      (r.timely.next_first i r.goes)
      (r.timely.next_listed i r.goes))

  module _ (s : Stop) (stop : s ≡ stop_at w i) where
    pub read_low : (l : List ℕ) → length l ≡ 65 → s.station < length l
    read_low l e = rw stop (omega (arith, r.timely.listed i r.goes, r.few))

    pub sum_fits : (b : ℕ) → b < unreached → b + s.points < 2 ^ 32
    sum_fits b h = rw stop (omega (arith, r.timely.cheap i r.goes))

    module _
        (a : ℕ)
        (low low' : List ℕ)
        (waits : low' ≡ lowered s.station (get_or q i 0) low)
        (b : ℕ)
        (paid : b ≡ boarding (may_board s) a s.station (get_or v i 0) (get_or low' s.station 0))
      where
        pub passed : unreached ≤ b → Turned w a s.depart i v q low v q low'
        passed h = rw stop (unboarded w caught a i v q low r low' (rw stop at waits) b (rw stop at paid) h)

        pub ridden : (v' q' : List ℕ) (more : ℕ) → 2048 ≤ length v → more ≡ b + s.points
            → v' ≡ set v (i + 1) (min unreached more)
            → Offering w (i + 1) (min unreached more) (Open w (i + 1)) q q'
            → Turned w a s.depart i v q low v' q' low'
        ridden v' q' more long adds rode offered =
            rw stop
            (boarded
            w
            caught
            a
            i
            v
            q
            low
            r
            low'
            (rw stop at waits)
            b
            (rw stop at paid)
            v'
            q'
            long
            (rw (adds, stop, add-one i) at rode)
            (rw (adds, stop, add-one i) at offered))
