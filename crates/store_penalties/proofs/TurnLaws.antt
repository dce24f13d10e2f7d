-- One turn of the pass: departure i stands at place x of the order.
use mathlib.Core.Path.{◌≡◌, sym, ap, subst, ◌∙◌}
use mathlib.Core.List.{List, [], ◌∷◌, ◌++◌}
use Prim.Native.Nat.{ℕ, suc, ◌+◌, ◌≤◌, ◌<◌}
use native.Mathlib.Numerals.{add-one}
use native.Mathlib.Omega.{arith}
use lib.ListN.{length, get_or, take, drop, length-take}
use lib.Seq.{get_or-take, split_at, take-suc}
use Rattle.timetable.specs.Timetable.{Stop}
use Rattle.timetable.specs.Words.{station_count, stop_at}
use Rattle.timetable.specs.Access.{stations_few}
use Rattle.store_stops.specs.Stopwise.{Goes}
use Rattle.store_departures.specs.Rising.{minute_at}
use Rattle.store_penalties.specs.Swept.{Swept, Turned}
use Rattle.store_penalties.specs.Split.{Place, goes_now}
use Rattle.store_penalties.specs.Turning.{turned}
use Rattle.store_penalties.specs.Underway.{not_yet}
use Rattle.store_penalties.specs.Riding.{Departing, from_earlier}
use Rattle.store_penalties.specs.Arranged.{Arranged, departures}

-- the order of departures stands in the slice
pub listed_in : (w deps caught : List ℕ) (x : ℕ) → Arranged w deps caught → x < length (departures w) → x < length deps
listed_in w deps caught x arranged h =
    omega (arith, ap length arranged.departs, length-take (length (departures w)) deps)

module _
    (w deps caught : List ℕ)
    (x : ℕ)
    (arranged : Arranged w deps caught)
    (in_order : x < length (departures w))
    (i : ℕ)
    (is : i ≡ get_or deps x 0)
  where
    here : i ≡ get_or (departures w) x 0
    here =
        is
        ∙ sym (get_or-take (length (departures w)) deps x 0 in_order)
        ∙ ap (λ l. get_or l x 0) arranged.departs

    place : Place w (take x (departures w)) (drop (suc x) (departures w)) i
    place =
        record {
          timely = arranged.timely;
          few = stations_few w arranged.timetable;
          ordered = arranged.ordered;
          split =
              split_at (departures w) x 0 in_order
              ∙ ap (λ k. take x (departures w) ++ (k ∷ drop (suc x) (departures w))) (sym here);
        }

    goes : Goes w i
    goes = goes_now place

    pub few : station_count w ≤ 64
    few = stations_few w arranged.timetable

    pub stop_few : i < 2048
    stop_few = omega (arith, arranged.timely.few i goes, arranged.timely.stops)

    -- ---- one departure more
    module _ (a d : ℕ) (v q low : List ℕ) (so_far : Swept w a d (take x (departures w)) v q low) where
      pub departing : Departing w caught i v q
      departing =
          record {
            goes = goes;
            accepted = arranged.timetable;
            timely = arranged.timely;
            few = stations_few w arranged.timetable;
            catches = arranged.catches i goes;
            fresh = not_yet place so_far;
            most = so_far.q_most;
          }

      pub once : (s : Stop) (v' q' low' : List ℕ) → s ≡ stop_at w i → d ≤ minute_at w deps x
          → Turned w a s.depart i v q low v' q' low'
          → Swept w a d (take (x + 1) (departures w)) v' q' low'
      once s v' q' low' stop on t =
          let more : take x (departures w) ++ (i ∷ []) ≡ take (x + 1) (departures w) =
          ap (λ k. take x (departures w) ++ (k ∷ [])) here
          ∙ sym (take-suc (departures w) x 0 in_order)
          ∙ ap (λ k. take k (departures w)) (sym (add-one x)) in
          subst (λ l. Swept w a d l v' q' low') more
          (turned place so_far (from_earlier (rw (← is) at on) (rw stop at t)))
