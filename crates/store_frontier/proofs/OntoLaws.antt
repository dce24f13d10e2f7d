-- What each way of changing allows, as the code goes through them: at the station itself, and by one walk after the
-- other.
use mathlib.Core.Path.{◌≡◌, refl, sym, ap, subst, ◌∙◌}
use mathlib.Core.Bool.{Bool, true, false}
use mathlib.Core.List.{List}
use Prim.Native.Nat.{ℕ, ◌+◌, ◌-◌, ◌≤◌, ◌<◌, max}
use native.Mathlib.Omega.{arith}
use lib.Dec.{ltb}
use lib.ListN.{length, get_or}
use Rattle.timetable.specs.Timetable.{Stop, Walk}
use Rattle.timetable.specs.Words.{station_count, stop_at, walks_to, walk_at, is_timetable}
use Rattle.connections.specs.Connections.{Change, on_foot}
use Rattle.store_stops.specs.Stopwise.{station, change_points, stay, nowhere}
use Rattle.store_stops.specs.OpenWays.{Open, ByWalk, WalkTo, walked_none, walked_more, open_ways, never_walked}
use Rattle.store_departures.specs.Order.{catch_by}
use Rattle.store_departures.specs.InOrderLaws.{caught_there}
use Rattle.store_departures.specs.Held.{Departures, no_walks, goes_few}
use Rattle.store_frontier.specs.Bounding.{
  caught_bound,
  caught_some,
  caught_none,
  Bounding,
  bounding_none,
  bounding_one,
  bounding_as,
  bounding_both,
}

-- ---- to one departure
module _ (q : List ℕ) (f cost : ℕ) where
  pub caught_inside : f < 65535 → ((f < nowhere) → f < length q) → f < length q
  caught_inside h g = g h

  pub bound_some : (u r : ℕ) → f < 65535 → u ≡ get_or q f 0 → r ≡ u - cost → r ≡ caught_bound q f cost
  bound_some u r h is-u is-r = is-r ∙ ap (λ k. k - cost) is-u ∙ sym (caught_some q f cost h)

  pub bound_none : 65535 ≤ f → 0 ≡ caught_bound q f cost
  bound_none h = sym (caught_none q f cost h)

module _ (w : List ℕ) (yes : is_timetable w ≡ true) where
  -- what is caught has a word in q
  caught_few : (way : Change) (j : ℕ) (q : List ℕ) → length q ≡ 2048 → catch_by w way j < nowhere
      → catch_by w way j < length q
  caught_few way j q long h = omega (arith, goes_few w yes (catch_by w way j) (caught_there w yes way j h).goes)

  -- ---- by one walk
  module _ (k j f : ℕ) (caught : f ≡ catch_by w (on_foot (walk_at w k)) j) where
    pub walk_inside : (q : List ℕ) → length q ≡ 2048 → (f < nowhere) → f < length q
    walk_inside q long h = rw caught (caught_few (on_foot (walk_at w k)) j q long (rw caught at h))

    pub walk_bounds : (walk : Walk) → walk ≡ walk_at w k → (q : List ℕ) (x r : ℕ) → x ≡ walk.points
        → r ≡ caught_bound q f x → Bounding w q j (ByWalk w k) r
    walk_bounds walk is q x r costs is-r =
        subst (Bounding w q j (ByWalk w k)) (sym (is-r ∙ rw (costs, is, caught)))
        (bounding_as w q j (λ way. way ≡ on_foot (walk_at w k))
        (caught_bound q (catch_by w (on_foot (walk_at w k)) j) (walk_at w k).points)
        (bounding_one w q j (on_foot (walk_at w k)))
        (ByWalk w k)
        (λ way. (λ e. record { is = e }, λ b. b.is)))

  -- ---- at the station itself
  module _ (j : ℕ) (s : Stop) (is-s : s ≡ stop_at w j) where
    pub station_some : 1 ≤ station w j → 1 ≤ s.station
    station_some h = rw is-s h

    pub station_here : station w j ≡ s.station
    station_here = rw is-s

    pub station_listed : station w j ≤ station_count w → s.station ≤ station_count w
    station_listed h = rw is-s h

    module _ (caught : List ℕ) (f : ℕ) (is_f : f ≡ get_or caught j 0)
        (is-caught : get_or caught j 0 ≡ catch_by w (stay w (station w j)) j) where
      pub here_inside : (q : List ℕ) → length q ≡ 2048 → (f < nowhere) → f < length q
      here_inside q long h =
          let e = is_f ∙ is-caught in
          rw e (caught_few (stay w (station w j)) j q long (rw e at h))

      pub onto_bounds : (chain first : List ℕ) → Departures w chain first → (q : List ℕ) (x here walks r : ℕ)
          → 1 ≤ station w j → station w j ≤ station_count w
          → x ≡ get_or first (66 + s.station) 0 → here ≡ caught_bound q f x
          → Bounding w q j (WalkTo w s.station (walks_to w s.station)) walks → r ≡ max here walks
          → Bounding w q j (Open w j) r
      onto_bounds chain first held q x here walks r some few price is_here onto is-r =
          let costs : x ≡ change_points w s.station =
          price ∙ held.priced.price s.station (station_some some) (station_listed few) in
          let at : Bounding w q j (λ way. way ≡ stay w (station w j)) here =
          subst (Bounding w q j (λ way. way ≡ stay w (station w j)))
          (sym (is_here ∙ rw (costs, is-s, is_f, is-caught)))
          (bounding_one w q j (stay w (station w j))) in
          let walked : Bounding w q j (WalkTo w (station w j) (walks_to w (station w j))) walks =
          (rw is-s at onto) in
          subst (Bounding w q j (Open w j)) (sym is-r)
          (bounding_both w q j (λ way. way ≡ stay w (station w j)) (WalkTo w (station w j) (walks_to w (station w j)))
          here walks at walked (Open w j)
          (open_ways w (station w j) yes some few j refl))

      -- where there are no walks, that is all
      pub own_bounds : (chain first : List ℕ) → Departures w chain first → (b : Bool) → b ≡ ltb 0 (get_or first 131 0)
          → b ≡ false → (q : List ℕ) (x here : ℕ) → 1 ≤ station w j → station w j ≤ station_count w
          → x ≡ get_or first (66 + s.station) 0 → here ≡ caught_bound q f x → Bounding w q j (Open w j) here
      own_bounds chain first held b is e q x here some few price is_here =
          onto_bounds chain first held q x here 0 here some few price is_here
          (bounding_none w q j (WalkTo w s.station (walks_to w s.station))
          (never_walked w yes s.station (station_listed few) (no_walks w chain first held b is e)))
          (omega arith)

-- ---- by all walks from a station
module _ (w q : List ℕ) (c j : ℕ) where
  pub walks_first : (k : ℕ) → k ≡ walks_to w (c - 1) → Bounding w q j (WalkTo w c k) 0
  walks_first k e = bounding_none w q j (WalkTo w c k) (λ way. walked_none w c k way e)

  pub walks_more : (k high bound r : ℕ) → walks_to w (c - 1) ≤ k → Bounding w q j (WalkTo w c k) high
      → Bounding w q j (ByWalk w k) bound → r ≡ max high bound → Bounding w q j (WalkTo w c (k + 1)) r
  walks_more k high bound r begun so_far once is =
      subst (Bounding w q j (WalkTo w c (k + 1))) (sym is)
      (bounding_both w q j (WalkTo w c k) (ByWalk w k) high bound so_far once (WalkTo w c (k + 1))
      (walked_more w c k begun))

  pub walks_last : (k end high : ℕ) → end ≡ walks_to w c → k ≤ end → end ≤ k → Bounding w q j (WalkTo w c k) high
      → Bounding w q j (WalkTo w c (walks_to w c)) high
  walks_last k end high is most least =
      let e : k ≡ walks_to w c = omega arith in subst (λ m. Bounding w q j (WalkTo w c m) high) e
