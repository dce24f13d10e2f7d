-- The ways of changing that are open on arrival at a stop, as the code goes through them: at the station itself, and by
-- one walk after the other.
use mathlib.Core.Path.{◌≡◌, subst, ◌∙◌}
use mathlib.Core.Bool.{Bool, true, false}
use mathlib.Core.List.{List}
use Prim.Native.Nat.{ℕ, ◌+◌, ◌-◌, ◌^◌, ◌≤◌, ◌<◌}
use native.Mathlib.Omega.{arith}
use lib.Dec.{ltb}
use lib.ListN.{get_or}
use Rattle.timetable.specs.Timetable.{Walk}
use Rattle.timetable.specs.Words.{station_count, walks_to, walk_at, is_timetable}
use Rattle.timetable.specs.Walks.{FromStation}
use Rattle.connections.specs.Connections.{on_foot}
use Rattle.store_stops.specs.Stopwise.{station, change_points, stay, unreached, Arrival}
use Rattle.store_stops.specs.OpenWays.{
  Open,
  ByWalk,
  WalkTo,
  walked_none,
  walked_more,
  open_ways,
  walk_cheap,
  never_walked,
}
use Rattle.store_departures.specs.Order.{catch_by}
use Rattle.store_departures.specs.Held.{Departures, no_walks}
use Rattle.store_points.specs.Lowered.{lowered}
use Rattle.store_penalties.specs.Offering.{Offering, offering_none, offering_one, offering_as, offering_both}

-- one walk
module _ (w : List ℕ) (k : ℕ) (walk : Walk) (is : walk ≡ walk_at w k) where
  pub walk_fits_lem : is_timetable w ≡ true → (j : ℕ) → Arrival w j → FromStation w (station w j) k → (u x : ℕ)
      → u ≤ unreached → x ≡ walk.points → u + x < 2 ^ 32
  walk_fits_lem ok j arrives from u x h e = omega (arith, walk_cheap w ok j k arrives from walk is)

  pub walked : (j u f x sum : ℕ) (q q' : List ℕ) → f ≡ catch_by w (on_foot (walk_at w k)) j → x ≡ walk.points
      → sum ≡ u + x → q' ≡ lowered f sum q → Offering w j u (ByWalk w k) q q'
  walked j u f x sum q q' caught costs adds lowers =
      offering_as w j u (λ way. way ≡ on_foot (walk_at w k)) q q'
      (offering_one w j u (on_foot (walk_at w k)) q q' (rw (lowers, adds, costs, is, caught)))
      (ByWalk w k)
      (λ way. (λ e. record { is = e }, λ b. b.is))

-- all walks from a station
module _ (w : List ℕ) (c j u : ℕ) where
  pub none_walked : (k : ℕ) (q : List ℕ) → k ≡ walks_to w (c - 1) → Offering w j u (WalkTo w c k) q q
  none_walked k q e = offering_none w j u (WalkTo w c k) q (λ way. walked_none w c k way e)

  pub one_walked : (k : ℕ) (q q' q'' : List ℕ) → walks_to w (c - 1) ≤ k → Offering w j u (WalkTo w c k) q q'
      → Offering w j u (ByWalk w k) q' q'' → Offering w j u (WalkTo w c (k + 1)) q q''
  one_walked k q q' q'' begun so_far once =
      offering_both w j u (WalkTo w c k) (ByWalk w k) q q' q'' so_far once
      (WalkTo w c (k + 1)) (walked_more w c k begun)

  pub all_walked : (k end : ℕ) (q q' : List ℕ) → end ≡ walks_to w c → k ≤ end → end ≤ k
      → Offering w j u (WalkTo w c k) q q' → Offering w j u (WalkTo w c (walks_to w c)) q q'
  all_walked k end q q' is most least =
      let e : k ≡ walks_to w c = omega arith in subst (λ m. Offering w j u (WalkTo w c m) q q') e

  -- and at the station itself
  module _ (chain first : List ℕ) (held : Departures w chain first) (some : 1 ≤ c) (few : c ≤ station_count w) where
    pub change_fits : (x : ℕ) → u ≤ unreached → x ≡ get_or first (66 + c) 0 → change_points w c ≤ 1000 → u + x < 2 ^ 32
    change_fits x h e cheap = omega (arith, held.priced.price c some few)

    pub all_open : (caught : List ℕ) (f x sum : ℕ) (q q' q'' : List ℕ) → is_timetable w ≡ true → station w j ≡ c
        → get_or caught j 0 ≡ catch_by w (stay w c) j → f ≡ get_or caught j 0 → x ≡ get_or first (66 + c) 0 → sum ≡ u +
        x
        → q' ≡ lowered f sum q → Offering w j u (WalkTo w c (walks_to w c)) q' q'' → Offering w j u (Open w j) q q''
    all_open caught f x sum q q' q'' accepted here catches reads price adds lowers walks =
        let costs = price ∙ held.priced.price c some few in
        offering_both w j u (λ way. way ≡ stay w c) (WalkTo w c (walks_to w c)) q q' q''
        (offering_one w j u (stay w c) q q' (rw (lowers, adds, costs, reads, catches)))
        walks
        (Open w j)
        (open_ways w c accepted some few j here)

    -- where there are no walks, that is all
    pub own_open : (b : Bool) → b ≡ ltb 0 (get_or first 131 0) → b ≡ false → (caught : List ℕ) (f x sum : ℕ)
        (q q' : List ℕ) → is_timetable w ≡ true → station w j ≡ c → get_or caught j 0 ≡ catch_by w (stay w c) j
        → f ≡ get_or caught j 0 → x ≡ get_or first (66 + c) 0 → sum ≡ u + x → q' ≡ lowered f sum q
        → Offering w j u (Open w j) q q'
    own_open b is e caught f x sum q q' accepted here catches reads price adds lowers =
        all_open caught f x sum q q' q' accepted here catches reads price adds lowers
        (offering_none w j u (WalkTo w c (walks_to w c)) q'
        (never_walked w accepted c few (no_walks w chain first held b is e)))
