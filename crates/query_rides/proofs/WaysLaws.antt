-- The way of changing as the code finds it.
use mathlib.Core.Path.{◌≡◌, sym, ap, ◌∙◌}
use mathlib.Core.Bool.{true}
use mathlib.Core.List.{List}
use Prim.Native.Nat.{ℕ, ◌-◌, ◌≤◌, ◌<◌}
use native.Mathlib.Omega.{arith}
use borrow.Author.Tests.{lt-ltb, le-ltb}
use lib.Dec.{eqb}
use Rattle.timetable.specs.Timetable.{Walk}
use Rattle.timetable.specs.Words.{station_count, station_at, walks_to, walk_at, is_timetable}
use Rattle.timetable.specs.Access.{stations_few}
use Rattle.timetable.specs.Walks.{walks_few, walks_rise}
use Rattle.timetable.specs.WalkTo.{walk_to}
use Rattle.results.specs.declared.Cost.{Cost}
use Rattle.query_rides.specs.declared.Change.{Change as Manner}
use Rattle.query_rides.specs.declared.Change.TheVariants.{Here, Walk as OnFoot}
use Rattle.query_rides.specs.Ways.{cost_of, own_cost, way_between}

pub cost_afoot : (stay : Cost) (change : Manner) (v : Walk) → change ≡ OnFoot v
    → record { minutes = record { 0 = v.minutes }; points = record { 0 = v.points } } ≡ cost_of stay change
cost_afoot stay change v e = sym (ap (cost_of stay) e)

-- ---- the walks from station y
module _ (w : List ℕ) (y : ℕ) (accepted : is_timetable w ≡ true) (inside : y ≤ station_count w) where
  pub station_few : y ≤ 64
  station_few = omega (arith, stations_few w accepted)

  pub walk_few : (end k : ℕ) → end ≡ walks_to w y → k < end → k < 256
  walk_few end k is h =
      omega (arith, is, walks_rise w accepted y (station_count w) inside (omega arith), walks_few w accepted)

-- ---- the walk found, or none
module _
    (w : List ℕ)
    (y x : ℕ)
    (stay : Cost)
    (minutes : stay.minutes.0 ≡ (station_at w (y - 1)).minutes)
    (points : stay.points.0 ≡ (station_at w (y - 1)).points)
    (k end : ℕ)
    (is-k : k ≡ walk_to w y x)
    (is-end : end ≡ walks_to w y)
  where
    is_stay : stay ≡ own_cost w y
    is_stay = λ i. record { minutes = record { 0 = minutes i }; points = record { 0 = points i } }

    pub way_own : end ≤ k → record { found = eqb y x; here = stay; change = Here } ≡ way_between w y x
    unfolding way_between
    way_own h =
        rw (le-ltb (walk_to w y x) (walks_to w y) (omega (arith, is-k, is-end)))
        (λ i. record { found = eqb y x; here = is_stay i; change = Here })

    pub way_afoot : (v : Walk) → k < end → v ≡ walk_at w k
        → record { found = true; here = stay; change = OnFoot v } ≡ way_between w y x
    unfolding way_between
    way_afoot v h e =
        let is = e ∙ ap (walk_at w) is-k in
        rw (lt-ltb (walk_to w y x) (walks_to w y) (omega (arith, is-k, is-end)))
        (λ i. record { found = true; here = is_stay i; change = OnFoot (is i) })
