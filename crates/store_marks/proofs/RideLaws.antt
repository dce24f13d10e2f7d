-- The loop that rides along a trip: a turn makes one arrival of those that are left, and the loop ends where they do.
use mathlib.Core.Path.{◌≡◌, refl, sym, ap, subst, ◌∙◌}
use mathlib.Core.Bool.{Bool, true, false, cond, not, ◌&&◌}
use mathlib.Core.List.{List, []}
use Prim.Native.Nat.{ℕ, suc, ◌+◌, ◌-◌, ◌*◌, ◌^◌, ◌≤◌, ◌<◌, min}
use native.Mathlib.Numerals.{add-one}
use native.Mathlib.Omega.{arith}
use borrow.Author.Tests.{lt-ltb, le-ltb, eq-eqb, ne_eqb}
use lib.Dec.{ltb, ltb→lt}
use lib.ListN.{get_or}
use Rattle.lists.specs.Tests.{T_left, and_false}
use Rattle.timetable.specs.Timetable.{Stop}
use Rattle.timetable.specs.Words.{stop_at, is_timetable}
use Rattle.connections.specs.Rides.{may_board}
use Rattle.store_stops.specs.Stopwise.{depart, points, unreached, Goes, Arrival}
use Rattle.store_stops.specs.TimelyLaws.{timely}
use Rattle.store_departures.specs.Held.{goes_few}
use Rattle.store_marks.specs.Riding.{Visit, visit, onward_points, goes_on, visits, comes_back, label_at}
use Rattle.store_marks.specs.Riding.{boarding, run}

module _ (w : List ℕ) (c : ℕ) (x : List ℕ) (i : ℕ) (act : Visit → List ℕ → List ℕ) (s : List ℕ) where
  -- who cannot board arrives nowhere
  pub not_boarded : (y : ℕ) → y ≡ label_at w x i → unreached ≤ y → s ≡ run act (boarding w c x i) s
  unfolding run boarding
  not_boarded y is h = rw (le-ltb (label_at w x i) unreached (rw is at h))

  pub boarded : (y : ℕ) (s' : List ℕ) → y ≡ label_at w x i → y < unreached
      → s' ≡ run act (visits w c (2048 - i) i y) s → s' ≡ run act (boarding w c x i) s
  unfolding boarding
  boarded y s' is h does = does ∙ rw (is, lt-ltb (label_at w x i) unreached (rw is at h))

pub boards_cheap : (y i : ℕ) → y < unreached → y ≤ 3166900 + 100 * i
boards_cheap y i h = omega arith

-- ---- bounds
module _ (w : List ℕ) (ok : is_timetable w ≡ true) (j : ℕ) (goes : Goes w j) where
  pub next_few : j + 1 < 2048
  next_few = omega (arith, goes_few w ok j goes)

  pub next_counts : j + 1 < 2 ^ 64
  next_counts = omega (arith, next_few)

  pub nearer : 2048 - (j + 1) < 2048 - j
  nearer = omega (arith, next_few)

  module _ (p y : ℕ) (is : p ≡ points w j) (most : y ≤ 3166900 + 100 * j) where
    pub more_most : (z : ℕ) → z ≡ y + p → z ≤ 3166900 + 100 * (j + 1)
    more_most z adds = omega (arith, (timely w ok).cheap j goes)

    pub more_fits : y + p < 2 ^ 32
    more_fits = omega (arith, more_most (y + p) refl, next_few)

    pub more_small : (z : ℕ) → z ≡ y + p → z < 4000000
    more_small z adds = omega (arith, more_most z adds, next_few)

pub points_of : (w : List ℕ) (j p : ℕ) (t : Stop) → t ≡ stop_at w j → p ≡ t.points → p ≡ points w j
points_of w j p t is e = e ∙ ap (λ (z : Stop). z.points) is

pub next_arrival : (w : List ℕ) (j : ℕ) → Goes w j → Arrival w (j + 1)
next_arrival w j goes = record { i = j; goes = goes; is = sym (add-one j) }

-- ---- what one has paid who boards
pub label_none : (w x : List ℕ) (i y : ℕ) → y ≡ get_or x i 0 → unreached ≤ y → unreached ≡ label_at w x i
unfolding label_at
label_none w x i y is far = go (may_board (stop_at w i))
  where
    go : (b : Bool) → unreached ≡ cond b (min (get_or x i 0) unreached) unreached
    go true = omega arith
    go false = refl

module _ (w x : List ℕ) (i : ℕ) (s : Stop) (is : s ≡ stop_at w i) (b : Bool) (is_b : b ≡ may_board s) where
  pub label_open : b ≡ true → (y : ℕ) → y ≡ get_or x i 0 → y < unreached → y ≡ label_at w x i
  unfolding label_at
  label_open e y h low =
      let capped : y ≡ min (get_or x i 0) unreached = omega arith in
      capped ∙ rw (← is, ← is_b, e)

  pub label_closed : b ≡ false → unreached ≡ label_at w x i
  unfolding label_at
  label_closed e = rw (← is, ← is_b, e)

-- ---- the ride onward
module _ (s : Stop) (c : ℕ) where
  pub back_there : s.station ≡ c → (r : Bool) → r ≡ may_board s → r ≡ comes_back s c
  unfolding comes_back
  back_there h r e = e ∙ rw (eq-eqb s.station c h)

  pub back_elsewhere : (s.station ≡ c → ⊥) → false ≡ comes_back s c
  unfolding comes_back
  back_elsewhere h = rw (ne_eqb s.station c h)

  onward_not : ltb 0 s.depart && not (comes_back s c) ≡ false → 101 ≡ onward_points s c
  unfolding onward_points
  onward_not e = rw e

  pub onward_ends : s.depart ≡ 0 → 101 ≡ onward_points s c
  onward_ends h = onward_not (rw (le-ltb 0 s.depart (omega arith)))

  module _ (b : Bool) (is : b ≡ comes_back s c) where
    pub onward_back : b ≡ true → 101 ≡ onward_points s c
    onward_back h = onward_not (rw (← is, h) (and_false (ltb 0 s.depart) false refl))

    pub onward_on : (p : ℕ) → (s.depart ≡ 0 → ⊥) → b ≡ false → p ≡ s.points → p ≡ onward_points s c
    unfolding onward_points
    onward_on p h g is-p = rw (is-p, lt-ltb 0 s.depart (omega arith), ← is, g)

-- the stop read is the one that is meant
pub same_onward : (w : List ℕ) (j c r : ℕ) (s : Stop) → s ≡ stop_at w j → r ≡ onward_points s c
    → r ≡ onward_points (stop_at w j) c
same_onward w j c r s is e = e ∙ ap (λ z. onward_points z c) is

module _ (w : List ℕ) (ok : is_timetable w ≡ true) (j : ℕ) (goes : Goes w j) (c r : ℕ)
    (is : r ≡ onward_points (stop_at w (j + 1)) c) where
  next_goes : goes_on w c (j + 1) ≡ true → Goes w (j + 1)
  next_goes e =
      let t = T_left (ltb 0 (depart w (j + 1))) (not (comes_back (stop_at w (j + 1)) c)) (rw e tt) in
      let same = ap (depart w) (add-one j) in
      subst (Goes w) (sym (add-one j))
      ((timely w ok).goes_on j goes (omega (arith, ltb→lt 0 (depart w (j + 1)) t)))

  next_points_lem : goes_on w c (j + 1) ≡ true → r ≡ points w (j + 1)
  unfolding onward_points
  next_points_lem e = is ∙ rw e

  no_points_lem : goes_on w c (j + 1) ≡ false → r ≡ 101
  unfolding onward_points
  no_points_lem e = is ∙ rw e

  pub stops_here : r ≡ 101 → goes_on w c (j + 1) ≡ false
  stops_here h = go (goes_on w c (j + 1)) refl
    where
      go : (b : Bool) → goes_on w c (j + 1) ≡ b → b ≡ false
      go true e = absurd (omega (arith, next_points_lem e, (timely w ok).cheap (j + 1) (next_goes e)))
      go false e = refl

  module _ (more : r ≡ 101 → ⊥) where
    rides_on : goes_on w c (j + 1) ≡ true
    rides_on = go (goes_on w c (j + 1)) refl
      where
        go : (b : Bool) → goes_on w c (j + 1) ≡ b → b ≡ true
        go true e = refl
        go false e = absurd (more (no_points_lem e))

    pub on_goes : Goes w (j + 1)
    on_goes = next_goes rides_on

    pub on_points : r ≡ points w (j + 1)
    on_points = next_points_lem rides_on

-- ---- a turn
module _
    (w : List ℕ)
    (ok : is_timetable w ≡ true)
    (c : ℕ)
    (act : Visit → List ℕ → List ℕ)
    (whole s s' : List ℕ)
    (j y p z r : ℕ)
    (left : whole ≡ run act (visits w c (2048 - j) j y) s)
    (goes : Goes w j)
    (is : p ≡ points w j)
    (adds : z ≡ y + p)
    (does : s' ≡ act (visit (j + 1) z) s)
    (next : r ≡ onward_points (stop_at w (j + 1)) c)
  where
    turn : whole ≡ run act (cond (goes_on w c (j + 1)) (visits w c (2048 - (j + 1)) (j + 1) z) []) s'
    unfolding run visits
    turn =
        let n : 2048 - j ≡ suc (2048 - (j + 1)) = omega (arith, goes_few w ok j goes) in
        left ∙ rw (n, does, adds, is, add-one j)

    pub ride_ends : r ≡ 101 → s' ≡ whole
    unfolding run
    ride_ends h = sym (turn ∙ rw (stops_here w ok j goes c r next h))

    pub ride_on_lem : (r ≡ 101 → ⊥) → whole ≡ run act (visits w c (2048 - (j + 1)) (j + 1) z) s'
    ride_on_lem h = turn ∙ rw (rides_on w ok j goes c r next h)
