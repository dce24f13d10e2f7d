-- The ways out of the functions that decide question 9.
use mathlib.Core.Path.{◌≡◌, refl, sym, ap, ◌∙◌}
use mathlib.Core.Bool.{Bool, true, false, not, ◌&&◌}
use mathlib.Core.List.{List, ◌∷◌}
use Prim.Native.Nat.{ℕ, ◌+◌, ◌≤◌, ◌<◌}
use native.Mathlib.Nat.{sub-zero}
use native.Mathlib.Omega.{arith}
use borrow.Author.Tests.{le-leb, lt-leb, lt-ltb, le-ltb, eq-eqb, ne_eqb, leb-true, leb-false, not-true, not-false}
use lib.Dec.{leb, ltb, eqb}
use Rattle.lists.specs.Tests.{and_true}
use Rattle.timetable.specs.Timetable.{
  Station,
  Walk,
  valid_station,
  valid_stations,
  valid_walk,
  walk_before,
  valid_walks,
  climb,
}
use Rattle.timetable.specs.Words.{
  count_to,
  station_count,
  station_at,
  number_at,
  foot_place,
  walks_to,
  walk_in,
  walks_in,
  walk_at,
}
use Rattle.timetable.specs.Check.{stations_at, numbers_at, walks_at, footed_from, between, between_more, between_none}
use Rattle.timetable_check.specs.Standing.{walk_stands}

-- ---- numbers of trips, one by one
module _ (w : List ℕ) (n k last : ℕ) (left : climb 0 (numbers_at w 0 n) ≡ climb last (numbers_at w k n)) where
  pub numbers_done : n ≤ k → true ≡ climb 0 (numbers_at w 0 n)
  unfolding climb
  numbers_done h = sym (left ∙ ap (climb last) (between_none (number_at w) k n h))

  module _ (h : k < n) (m : ℕ) (is : m ≡ number_at w k) where
    one_more : climb 0 (numbers_at w 0 n) ≡ (ltb last m && leb m 9999 && climb m (numbers_at w (k + 1) n))
    unfolding climb
    one_more = left ∙ ap (climb last) (between_more (number_at w) k n h) ∙ rw (← is)

    pub number_low : m ≤ last → false ≡ climb 0 (numbers_at w 0 n)
    number_low e = sym (one_more ∙ rw (le-ltb last m e))

    module _ (above : last < m) where
      pub number_high : 9999 < m → false ≡ climb 0 (numbers_at w 0 n)
      number_high e = sym (one_more ∙ rw (lt-ltb last m above, lt-leb m 9999 e))

      pub number_on : m ≤ 9999 → climb 0 (numbers_at w 0 n) ≡ climb m (numbers_at w (k + 1) n)
      number_on e = one_more ∙ rw (lt-ltb last m above, le-leb m 9999 e)

-- ---- stations, one by one
module _ (w : List ℕ) (n i : ℕ) (left : valid_stations (stations_at w 0 n) ≡ valid_stations (stations_at w i n)) where
  pub stations_done : n ≤ i → true ≡ valid_stations (stations_at w 0 n)
  unfolding valid_stations
  stations_done h = sym (left ∙ ap valid_stations (between_none (station_at w) i n h))

  module _ (h : i < n) (s : Station) (is : s ≡ station_at w i) (t : Bool) (test : t ≡ valid_station s) where
    next : valid_stations (stations_at w 0 n) ≡ (t && valid_stations (stations_at w (i + 1) n))
    unfolding valid_stations
    next = left ∙ ap valid_stations (between_more (station_at w) i n h) ∙ rw (test, is)

    pub station_bad : not t ≡ true → false ≡ valid_stations (stations_at w 0 n)
    station_bad e = sym (next ∙ rw (not-true t e))

    pub station_good : not t ≡ false → valid_stations (stations_at w 0 n) ≡ valid_stations (stations_at w (i + 1) n)
    station_good e = next ∙ rw (not-false t e)

-- ---- walks, one by one
module _ (w : List ℕ) (n k walks : ℕ) (v : Walk) (is : v ≡ walk_at w k) (t : Bool) (test : t ≡ valid_walk n v) where
  pub walk_falls : not t ≡ true → false ≡ walk_stands w n k walks
  unfolding walk_stands
  walk_falls h = simp (← is, ← test, not-true t h)

  module _ (good : not t ≡ false) where
    pub walk_last : walks ≤ k + 1 → true ≡ walk_stands w n k walks
    unfolding walk_stands
    walk_last h = simp (← is, ← test, not-false t good, le-leb walks (k + 1) h)

    pub walk_next : k + 1 < walks → (u : Walk) → u ≡ walk_at w (k + 1) → (r : Bool) → r ≡ walk_before v u
        → r ≡ walk_stands w n k walks
    unfolding walk_stands
    walk_next h u e r f = f ∙ simp (← is, ← e, ← test, not-false t good, lt-leb walks (k + 1) h)

module _ (w : List ℕ) (n walks k : ℕ) (left : valid_walks n (walks_at w 0 walks) ≡ valid_walks n (walks_at w k walks))
  where
    pub walks_done : walks ≤ k → true ≡ valid_walks n (walks_at w 0 walks)
    unfolding valid_walks
    walks_done h = sym (left ∙ ap (valid_walks n) (between_none (walk_at w) k walks h))

    module _ (h : k < walks) (t : Bool) (test : t ≡ walk_stands w n k walks) where
      stands : valid_walks n (walks_at w k walks) ≡ (t && valid_walks n (walks_at w (k + 1) walks))
      unfolding valid_walks walk_stands
      stands = ap (valid_walks n) (between_more (walk_at w) k walks h) ∙ by_place (leb walks (k + 1)) refl
        where
          by_place : (b : Bool) → leb walks (k + 1) ≡ b
              → valid_walks n (walk_at w k ∷ walks_at w (k + 1) walks) ≡ (t && valid_walks n (walks_at w (k + 1) walks))
          by_place true e =
              rw (
                between_none (walk_at w) (k + 1) walks (leb-true walks (k + 1) e),
                test,
                e,
                and_true (valid_walk n (walk_at w k)),
                and_true (valid_walk n (walk_at w k)),
              )
          by_place false e = rw (between_more (walk_at w) (k + 1) walks (leb-false walks (k + 1) e), test, e)

      pub walk_bad : not t ≡ true → false ≡ valid_walks n (walks_at w 0 walks)
      walk_bad e = sym (left ∙ stands ∙ rw (not-true t e))

      pub walk_good : not t ≡ false → valid_walks n (walks_at w 0 walks) ≡ valid_walks n (walks_at w (k + 1) walks)
      walk_good e = left ∙ stands ∙ rw (not-false t e)

-- ---- counts of walks, station by station
module _ (w : List ℕ) (walks stations y : ℕ) (whole : Bool)
    (left : whole ≡ footed_from w (walks_at w 0 walks) y (stations + 1)) where
  pub feet_done : stations < y → true ≡ whole
  unfolding footed_from
  feet_done h =
      sym
      (left
      ∙ rw (
        between_none (walks_to w) y (stations + 1) (omega arith),
        between_none (count_to (walks_at w 0 walks)) y (stations + 1) (omega arith),
      ))

  module _ (h : y ≤ stations) (p a b : ℕ) (there : p ≡ foot_place w + (station_count w + 1)) (is-a : a ≡ walks_to w y)
      (is_b : b ≡ count_to (walks_in w p walks) y) where
    counted : b ≡ count_to (walks_at w 0 walks) y
    unfolding walk_in walk_at between
    counted = is_b ∙ rw (there, sub-zero)

    one : whole ≡ (eqb a b && footed_from w (walks_at w 0 walks) (y + 1) (stations + 1))
    unfolding footed_from
    one =
        left
        ∙ rw (
          between_more (walks_to w) y (stations + 1) (omega arith),
          between_more (count_to (walks_at w 0 walks)) y (stations + 1) (omega arith),
          ← is-a,
          ← counted,
        )

    pub feet_differ : (a ≡ b → ⊥) → false ≡ whole
    feet_differ g = sym (one ∙ rw (ne_eqb a b g))

    pub feet_agree : a ≡ b → whole ≡ footed_from w (walks_at w 0 walks) (y + 1) (stations + 1)
    feet_agree g = one ∙ rw (eq-eqb a b g)
