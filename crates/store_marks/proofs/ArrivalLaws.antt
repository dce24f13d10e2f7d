-- An arrival: what one can rely on there, the departure caught by a way of changing, the offer that is made, and the
-- flags that are tried.
use mathlib.Core.Path.{◌≡◌, sym, ap, subst, ◌∙◌}
use mathlib.Core.Bool.{Bool, true, false}
use mathlib.Core.List.{List}
use Prim.Native.Nat.{ℕ, suc, ◌+◌, ◌-◌, ◌^◌, ◌≤◌, ◌<◌}
use native.Mathlib.Omega.{arith}
use borrow.Author.Tests.{eq-eqb, ne_eqb}
use lib.Dec.{ltb}
use lib.ListN.{length, get_or}
use Rattle.lists.specs.Lists.{range}
use Rattle.timetable.specs.Timetable.{Station, Stop, Walk, last_minute}
use Rattle.timetable.specs.Words.{station_count, walks_to, walk_at, stop_at, is_timetable}
use Rattle.timetable.specs.Access.{stations_few}
use Rattle.timetable.specs.Walks.{FromStation, walks_rise}
use Rattle.timetable.specs.WalkTo.{stay_at}
use Rattle.connections.specs.Connections.{on_foot}
use Rattle.connections.proofs.Sound.{Priced as PricedWay}
use Rattle.store_stops.specs.Stopwise.{station, arrive, change_points, stay, Arrival}
use Rattle.store_stops.specs.TimelyLaws.{timely}
use Rattle.store_stops.specs.Ways.{good_way}
use Rattle.store_stops.specs.OpenWays.{walk_cheap}
use Rattle.store_slots.specs.Slots.{here_slot, walk_slot, walks_from}
use Rattle.store_departures.specs.Order.{catch_by, catch}
use Rattle.store_departures.specs.Held.{Priced, Departures, no_walks, goes_few}
use Rattle.store_points.specs.Lowered.{lowered}
use Rattle.store_marks.specs.Arrays.{raised}
use Rattle.store_marks.specs.Riding.{visit, offer, staying, raise_try, raise_all, ends_try, change_try}
use Rattle.store_marks.specs.Riding.{walk_tries, change_tries, flag_arc, flag_kids}
use Rattle.store_marks.specs.Held.{Changes, Way}

-- the stop read is the one arrived at
pub stop_station : (w : List ℕ) (j : ℕ) (s : Stop) → s ≡ stop_at w j → s.station ≡ station w j
stop_station w j s is = ap (λ (z : Stop). z.station) is

pub own_is : (w : List ℕ) (y : ℕ) (s : Station) → s ≡ stay_at w y
    → record { from = y; to = y; minutes = s.minutes; points = s.points } ≡ staying w y
own_is w y s is = ap (λ (z : Station). record { from = y; to = y; minutes = z.minutes; points = z.points }) is

module _ (w : List ℕ) (ok : is_timetable w ≡ true) where
  module _ (j : ℕ) (a : Arrival w j) where
    pub arrival_few : j < 2048
    arrival_few = omega (arith, a.is, goes_few w ok a.i a.goes)

    pub arrival_wide : (l : List ℕ) → length l ≡ 2048 → j < length l
    arrival_wide l long = omega (arith, arrival_few)

    pub arrival_minute : arrive w j ≤ last_minute
    arrival_minute = omega (arith, ap (arrive w) a.is, (timely w ok).minute a.i a.goes)

    module _ (caught : List ℕ) (changes : Changes w caught) where
      pub arrival_room : j < length caught
      arrival_room = omega (arith, arrival_few, changes.caught_long)

      caught_stay : get_or caught j 0 ≡ catch_by w (stay w (station w j)) j
      caught_stay = subst (λ k. get_or caught k 0 ≡ catch w k) a.is (changes.caught_is a.i a.goes)

      pub caught_own : (own : Bool) (way : Walk) → Way w own way → own ≡ true → station w j ≡ way.from → (r : ℕ)
          → r ≡ get_or caught j 0 → r ≡ catch_by w (on_foot way) j
      caught_own own way held is-own from r is =
          is
          ∙ caught_stay
          ∙ ap (λ b. catch_by w (stay w b) j) from
          ∙ ap (λ (v : Walk). catch_by w (on_foot v) j) (sym (held.stays is-own))

    -- at station b
    module _ (b : ℕ) (at : b ≡ station w j) where
      pub arrival_some : 1 ≤ b
      arrival_some = omega (arith, ap (station w) a.is, (timely w ok).next_first a.i a.goes)

      pub arrival_listed : b ≤ station_count w
      arrival_listed = omega (arith, ap (station w) a.is, (timely w ok).next_listed a.i a.goes)

      pub arrival_low : b ≤ 64
      arrival_low = omega (arith, arrival_listed, stations_few w ok)

      pub before_low : b - 1 ≤ 64
      before_low = omega (arith, arrival_low)

      pub arc_room : (flags : List ℕ) → length flags ≡ 64 → b - 1 < length flags
      arc_room flags long = omega (arith, arrival_some, arrival_low)

      pub kid_room : (flags : List ℕ) → length flags ≡ 320 → b - 1 < length flags
      kid_room flags long = omega (arith, arrival_some, arrival_low)

      pub own_costs : (first : List ℕ) → Priced w first → (cost : ℕ) → cost ≡ get_or first (66 + b) 0
          → cost ≡ change_points w b
      own_costs first priced cost is = is ∙ priced.price b arrival_some arrival_listed

      pub own_fits : (first : List ℕ) → Priced w first → (y cost : ℕ) → y < 4000000 → cost ≡ get_or first (66 + b) 0
          → y + cost < 2 ^ 32
      own_fits first priced y cost h is =
          omega (arith, own_costs first priced cost is, (timely w ok).most b arrival_some arrival_listed)

  -- ---- a way of changing
  module _ (own : Bool) (way : Walk) (held : Way w own way) where
    good : PricedWay (station_count w) (on_foot way)
    good = good_way w ok (on_foot way) held.listed

    pub way_near : way.to ≤ 64
    way_near = omega (arith, good.to_last, stations_few w ok)

    pub way_fits : (y cost : ℕ) → y < 4000000 → cost ≡ way.points → y + cost < 2 ^ 32
    way_fits y cost h is = omega (arith, good.points_most)

  -- ---- walk k, from the station of stop j
  module _ (j : ℕ) (a : Arrival w j) (k : ℕ) (from : FromStation w (station w j) k) where
    pub walk_fits_lem : (v : Walk) → v ≡ walk_at w k → (y cost : ℕ) → y < 4000000 → cost ≡ v.points → y + cost < 2 ^ 32
    walk_fits_lem v is y cost h costs = omega (arith, walk_cheap w ok j k a from v is)

-- ---- an offer
module _ (w : List ℕ) (j b : ℕ) (at : b ≡ station w j) (way : Walk) where
  pub begins_here : b ≡ way.from → station w j ≡ way.from
  begins_here h = sym at ∙ h

  pub offered : (x x' : List ℕ) (y g cost sum : ℕ) → b ≡ way.from → g ≡ catch_by w (on_foot way) j → cost ≡ way.points
      → sum ≡ y + cost → x' ≡ lowered g sum x → x' ≡ offer w (on_foot way) (visit j y) x
  unfolding offer
  offered x x' y g cost sum h is costs adds does =
      does
      ∙ ap (λ k. lowered k sum x) is
      ∙ ap (λ z. lowered (catch_by w (on_foot way) j) z x) (adds ∙ ap (λ z. y + z) costs)
      ∙ rw (eq-eqb (station w j) way.from (begins_here h))

  pub not_offered : (x : List ℕ) (y : ℕ) → (b ≡ way.from → ⊥) → x ≡ offer w (on_foot way) (visit j y) x
  unfolding offer
  not_offered x y h = rw (ne_eqb (station w j) way.from (λ e. h (at ∙ e)))

-- ---- a flag that is tried
pub arc_tried : (w allowed old new : List ℕ) (j b y bound : ℕ) → b ≡ station w j → bound ≡ get_or allowed j 0
    → new ≡ raised (ltb y bound) (b - 1) old → new ≡ flag_arc w allowed (visit j y) old
unfolding flag_arc raise_all raise_try ends_try
arc_tried w allowed old new j b y bound at says e =
    e
    ∙ ap (λ z. raised (ltb y z) (b - 1) old) says
    ∙ ap (λ z. raised (ltb y (get_or allowed j 0)) (z - 1) old) at

module _ (w q old new : List ℕ) (j y : ℕ) where
  pub own_tried : is_timetable w ≡ true → Arrival w j → (caught : List ℕ) → Changes w caught → (b : ℕ)
      → b ≡ station w j → (first : List ℕ) → Priced w first → (cost sum f bound : ℕ)
      → cost ≡ get_or first (66 + b) 0 → sum ≡ y + cost → f ≡ get_or caught j 0
      → bound ≡ get_or q f 0 → new ≡ raised (ltb sum bound) (b - 1) old
      → new ≡ raise_try (change_try w q (visit j y) (stay w (station w j)) (here_slot (station w j))) old
  unfolding raise_try change_try
  own_tried ok a caught changes b at first priced cost sum f bound price adds is says e =
      let costs = own_costs w ok j a b at first priced cost price in
      e
      ∙ ap (λ z. raised (ltb sum z) (b - 1) old)
      (says ∙ ap (λ k. get_or q k 0) (is ∙ caught_stay w ok j a caught changes))
      ∙ ap (λ z. raised (ltb z (get_or q (catch_by w (stay w (station w j)) j) 0)) (b - 1) old)
      (adds ∙ ap (λ z. y + z) (costs ∙ ap (change_points w) at))
      ∙ ap
      (λ z.
      raised (ltb (y + change_points w (station w j)) (get_or q (catch_by w (stay w (station w j)) j) 0)) (z - 1) old)
      at

  pub walk_tried : (k : ℕ) (v : Walk) → v ≡ walk_at w k → (s cost sum g bound : ℕ)
      → g ≡ catch_by w (on_foot (walk_at w k)) j → cost ≡ v.points → sum ≡ y + cost → s ≡ walk_slot w k
      → bound ≡ get_or q g 0
      → new ≡ raised (ltb sum bound) s old
      → new ≡ raise_try (change_try w q (visit j y) (on_foot (walk_at w k)) (walk_slot w k)) old
  unfolding raise_try change_try
  walk_tried k v is s cost sum g bound catches costs adds slot says e =
      e
      ∙ ap (λ z. raised (ltb sum z) s old) (says ∙ ap (λ i. get_or q i 0) catches)
      ∙ ap (λ z. raised (ltb z (get_or q (catch_by w (on_foot (walk_at w k)) j) 0)) s old)
      (adds ∙ ap (λ z. y + z) (costs ∙ ap (λ (u : Walk). u.points) is))
      ∙ ap
      (λ z.
      raised (ltb (y + (walk_at w k).points) (get_or q (catch_by w (on_foot (walk_at w k)) j) 0)) z old)
      slot

-- ---- the walks from a station, one after the other
module _ (w q : List ℕ) (j y : ℕ) where
  abbrev tries : List ℕ → List ℕ → List ℕ
  tries ks l = raise_all (walk_tries w q (visit j y) ks) l

  pub walks_start : (b k end : ℕ) (l : List ℕ) → k ≡ walks_to w (b - 1) → end ≡ walks_to w b
      → raise_all (walk_tries w q (visit j y) (walks_from w b)) l
      ≡ raise_all (walk_tries w q (visit j y) (range k (end - k))) l
  walks_start b k end l from to =
      ap (λ z. tries (range (walks_to w (b - 1)) (z - walks_to w (b - 1))) l) (sym to)
      ∙ ap (λ z. tries (range z (end - z)) l) (sym from)

  module _ (whole l : List ℕ) (k end : ℕ)
      (left : whole ≡ raise_all (walk_tries w q (visit j y) (range k (end - k))) l) where
    pub walks_on : (l' : List ℕ) → k < end
        → l' ≡ raise_try (change_try w q (visit j y) (on_foot (walk_at w k)) (walk_slot w k)) l
        → whole ≡ raise_all (walk_tries w q (visit j y) (range (k + 1) (end - (k + 1)))) l'
    unfolding raise_all walk_tries
    walks_on l' h does =
        let n : end - k ≡ suc (end - (k + 1)) = omega arith in
        let i : suc k ≡ k + 1 = omega arith in
        let tried = raise_try (change_try w q (visit j y) (on_foot (walk_at w k)) (walk_slot w k)) l in
        left
        ∙ ap (λ z. tries (range k z) l) n
        ∙ ap (λ z. tries (range z (end - (k + 1))) tried) i
        ∙ ap (tries (range (k + 1) (end - (k + 1)))) (sym does)

    pub walks_done : end ≤ k → l ≡ whole
    unfolding raise_all walk_tries
    walks_done h =
        let n : end - k ≡ 0 = omega arith in
        sym (left ∙ ap (λ z. tries (range k z) l) n)

-- each of them is from there
pub walks_begun : (w : List ℕ) (b k : ℕ) → k ≡ walks_to w (b - 1) → walks_to w (b - 1) ≤ k
walks_begun w b k is = omega arith

pub walk_from_there : (w : List ℕ) (j b k end : ℕ) → b ≡ station w j → walks_to w (b - 1) ≤ k → end ≡ walks_to w b
    → k < end → FromStation w (station w j) k
walk_from_there w j b k end at begun is h =
    subst (λ c. FromStation w c k) at (record { begun = begun; inside = omega arith })

module _ (w q old mid new : List ℕ) (j b y : ℕ) (at : b ≡ station w j)
    (own : mid ≡ raise_try (change_try w q (visit j y) (stay w (station w j)) (here_slot (station w j))) old) where
  kids_are : flag_kids w q (visit j y) old ≡ tries w q j y (walks_from w b) mid
  unfolding flag_kids change_tries raise_all
  kids_are =
      ap (λ l. tries w q j y (walks_from w (station w j)) l) (sym own)
      ∙ ap (λ z. tries w q j y (walks_from w z) mid) (sym at)

  pub kids_tried : new ≡ raise_all (walk_tries w q (visit j y) (walks_from w b)) mid
      → new ≡ flag_kids w q (visit j y) old
  kids_tried does = does ∙ sym kids_are

  -- where there are no walks at all
  pub kids_stay : is_timetable w ≡ true → Arrival w j → (chained first : List ℕ) → Departures w chained first
      → (o : Bool) → o ≡ ltb 0 (get_or first 131 0) → o ≡ false → mid ≡ flag_kids w q (visit j y) old
  unfolding raise_all walk_tries
  kids_stay ok a chained first held o is e =
      let none = no_walks w chained first held o is e in
      let n : walks_to w b - walks_to w (b - 1) ≡ 0 =
      omega (arith, walks_rise w ok b (station_count w) (arrival_listed w ok j a b at) (omega arith)) in
      sym (kids_are ∙ ap (λ z. tries w q j y (range (walks_to w (b - 1)) z) mid) n)
