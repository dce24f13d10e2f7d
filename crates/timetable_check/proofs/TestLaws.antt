-- The ways out of the tests of one station or walk.
use mathlib.Core.Path.{◌≡◌}
use mathlib.Core.Bool.{true, false}
use Prim.Native.Nat.{ℕ, ◌≤◌, ◌<◌}
use borrow.Author.Tests.{lt-ltb, le-ltb, le-leb, lt-leb, eq-eqb, ne_eqb}
use lib.Dec.{leb, ltb}
use Rattle.timetable.specs.Timetable.{Station, Walk, valid_station, valid_walk, walk_before}

module _ (s : Station) where
  pub minutes_above : 240 < s.minutes → false ≡ valid_station s
  unfolding valid_station
  minutes_above h = simp (lt-leb s.minutes 240 h)

  module _ (m : s.minutes ≤ 240) where
    pub points_below : s.points < 1 → false ≡ valid_station s
    unfolding valid_station
    points_below h = simp (le-leb s.minutes 240 m, lt-leb 1 s.points h)

    pub points_decide : 1 ≤ s.points → leb s.points 1000 ≡ valid_station s
    unfolding valid_station
    points_decide h = simp (le-leb s.minutes 240 m, le-leb 1 s.points h)

module _ (n : ℕ) (v : Walk) where
  pub from_below : v.from < 1 → false ≡ valid_walk n v
  unfolding valid_walk
  from_below h = simp (lt-leb 1 v.from h)

  module _ (h1 : 1 ≤ v.from) where
    pub from_above : n < v.from → false ≡ valid_walk n v
    unfolding valid_walk
    from_above h = simp (le-leb 1 v.from h1, lt-leb v.from n h)

    module _ (h2 : v.from ≤ n) where
      pub to_below : v.to < 1 → false ≡ valid_walk n v
      unfolding valid_walk
      to_below h = simp (le-leb 1 v.from h1, le-leb v.from n h2, lt-leb 1 v.to h)

      module _ (h3 : 1 ≤ v.to) where
        pub to_above : n < v.to → false ≡ valid_walk n v
        unfolding valid_walk
        to_above h = simp (le-leb 1 v.from h1, le-leb v.from n h2, le-leb 1 v.to h3, lt-leb v.to n h)

        module _ (h4 : v.to ≤ n) where
          pub walk_none : v.minutes < 1 → false ≡ valid_walk n v
          unfolding valid_walk
          walk_none h =
              simp (
                le-leb 1 v.from h1,
                le-leb v.from n h2,
                le-leb 1 v.to h3,
                le-leb v.to n h4,
                lt-leb 1 v.minutes h,
              )

          module _ (h5 : 1 ≤ v.minutes) where
            pub walk_long : 60 < v.minutes → false ≡ valid_walk n v
            unfolding valid_walk
            walk_long h =
                simp (
                  le-leb 1 v.from h1,
                  le-leb v.from n h2,
                  le-leb 1 v.to h3,
                  le-leb v.to n h4,
                  le-leb 1 v.minutes h5,
                  lt-leb v.minutes 60 h,
                )

            module _ (h6 : v.minutes ≤ 60) where
              pub walk_free : v.points < 1 → false ≡ valid_walk n v
              unfolding valid_walk
              walk_free h =
                  simp (
                    le-leb 1 v.from h1,
                    le-leb v.from n h2,
                    le-leb 1 v.to h3,
                    le-leb v.to n h4,
                    le-leb 1 v.minutes h5,
                    le-leb v.minutes 60 h6,
                    lt-leb 1 v.points h,
                  )

              module _ (h7 : 1 ≤ v.points) where
                pub walk_cheap : leb v.points 1000 ≡ valid_walk n v
                unfolding valid_walk
                walk_cheap =
                    simp (
                      le-leb 1 v.from h1,
                      le-leb v.from n h2,
                      le-leb 1 v.to h3,
                      le-leb v.to n h4,
                      le-leb 1 v.minutes h5,
                      le-leb v.minutes 60 h6,
                      le-leb 1 v.points h7,
                    )

module _ (v u : Walk) where
  pub before_less : v.from < u.from → true ≡ walk_before v u
  unfolding walk_before
  before_less h = simp (lt-ltb v.from u.from h)

  module _ (least : u.from ≤ v.from) where
    pub before_more : (v.from ≡ u.from → ⊥) → false ≡ walk_before v u
    unfolding walk_before
    before_more h = simp (le-ltb v.from u.from least, ne_eqb v.from u.from h)

    pub before_same : v.from ≡ u.from → ltb v.to u.to ≡ walk_before v u
    unfolding walk_before
    before_same h = simp (le-ltb v.from u.from least, eq-eqb v.from u.from h)
