-- The ways out of the tests of one stop.
use mathlib.Core.Path.{◌≡◌, ◌∙◌}
use mathlib.Core.Bool.{Bool, true, false, not}
use Prim.Native.Nat.{ℕ, ◌≤◌, ◌<◌}
use borrow.Author.Tests.{lt-ltb, le-ltb, le-leb, lt-leb, eq-eqb, ne_eqb, not-true, not-false}
use lib.Dec.{leb}
use Rattle.timetable.specs.Timetable.{Stop, listed, leaves, ends, follows, last_minute, marked}
use Rattle.timetable_trips.specs.Steps.{begins, passes}

module _ (s : Stop) where
  module _ (n : ℕ) where
    pub no_station_lem : s.station < 1 → false ≡ listed n s
    unfolding listed
    no_station_lem h = simp (lt-leb 1 s.station h)

    pub station_decides : 1 ≤ s.station → leb s.station n ≡ listed n s
    unfolding listed
    station_decides h = simp (le-leb 1 s.station h)

  pub depart_above : last_minute < s.depart → false ≡ leaves s
  unfolding leaves
  depart_above h = simp (lt-leb s.depart last_minute h)

  module _ (h : s.depart ≤ last_minute) where
    pub ride_above : 100 < s.points → false ≡ leaves s
    unfolding leaves
    ride_above g = simp (le-leb s.depart last_minute h, lt-leb s.points 100 g)

    pub leaving_mark : s.points ≤ 100 → marked s ≡ leaves s
    unfolding leaves
    leaving_mark g = simp (le-leb s.depart last_minute h, le-leb s.points 100 g)

  pub depart_some : (s.depart ≡ 0 → ⊥) → false ≡ ends s
  unfolding ends
  depart_some h = simp (ne_eqb s.depart 0 h)

  module _ (h : s.depart ≡ 0) where
    pub ride_some : (s.points ≡ 0 → ⊥) → false ≡ ends s
    unfolding ends
    ride_some g = simp (eq-eqb s.depart 0 h, ne_eqb s.points 0 g)

    pub ending_mark : s.points ≡ 0 → marked s ≡ ends s
    unfolding ends
    ending_mark g = simp (eq-eqb s.depart 0 h, eq-eqb s.points 0 g)

module _ (n : ℕ) (b s : Stop) (t : Bool) (is : t ≡ listed n s) where
  pub unlisted : not t ≡ true → false ≡ follows n b s
  unfolding follows
  unlisted h = simp (← is, not-true t h)

  module _ (in_List : not t ≡ false) where
    pub same_station : s.station ≡ b.station → false ≡ follows n b s
    unfolding follows
    same_station h = simp (← is, not-false t in_List, eq-eqb s.station b.station h)

    module _ (unlike : s.station ≡ b.station → ⊥) where
      pub too_early : s.arrive ≤ b.depart → false ≡ follows n b s
      unfolding follows
      too_early h =
          simp (
            ← is,
            not-false t in_List,
            ne_eqb s.station b.station unlike,
            le-ltb b.depart s.arrive h,
          )

      pub arrive_decides : b.depart < s.arrive → leb s.arrive last_minute ≡ follows n b s
      unfolding follows
      arrive_decides h =
          simp (
            ← is,
            not-false t in_List,
            ne_eqb s.station b.station unlike,
            lt-ltb b.depart s.arrive h,
          )

-- ---- a first stop
module _ (n : ℕ) (s : Stop) (t : Bool) (is : t ≡ listed n s) where
  pub begins_unlisted : not t ≡ true → false ≡ begins n s
  unfolding begins
  begins_unlisted h = simp (← is, not-true t h)

  module _ (in_List : not t ≡ false) where
    pub begins_arriving : (s.arrive ≡ 0 → ⊥) → false ≡ begins n s
    unfolding begins
    begins_arriving h = simp (← is, not-false t in_List, ne_eqb s.arrive 0 h)

    pub begins_leaving : s.arrive ≡ 0 → (u : Bool) → u ≡ leaves s → u ≡ begins n s
    unfolding begins
    begins_leaving h u e = e ∙ simp (← is, not-false t in_List, eq-eqb s.arrive 0 h)

-- ---- a stop in between
module _ (n : ℕ) (b s : Stop) (t : Bool) (is : t ≡ follows n b s) where
  pub passes_astray : not t ≡ true → false ≡ passes n b s
  unfolding passes
  passes_astray h = simp (← is, not-true t h)

  module _ (after : not t ≡ false) where
    pub passes_early : s.depart < s.arrive → false ≡ passes n b s
    unfolding passes
    passes_early h = simp (← is, not-false t after, lt-leb s.arrive s.depart h)

    pub passes_leaving : s.arrive ≤ s.depart → (u : Bool) → u ≡ leaves s → u ≡ passes n b s
    unfolding passes
    passes_leaving h u e = e ∙ simp (← is, not-false t after, le-leb s.arrive s.depart h)
