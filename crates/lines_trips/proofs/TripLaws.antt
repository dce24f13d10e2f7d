-- The ways out of the functions that read one trip, or compare two. In a timetable with a yes each trip has a first
-- stop, and two trips are compared stop by stop, by what is left of them.
use mathlib.Core.Path.{◌≡◌, refl, sym, ap, ◌∙◌}
use mathlib.Core.Bool.{Bool, true, false, not, ◌&&◌}
use mathlib.Core.List.{List, [], ◌∷◌}
use Prim.Native.Nat.{ℕ, suc, ◌+◌, ◌-◌, ◌^◌, ◌≤◌, ◌<◌}
use native.Mathlib.Nat.{add-zero}
use native.Mathlib.Omega.{arith}
use lib.ListN.{length}
use borrow.Author.Tests.{le-leb, lt-leb, eq-eqb, ne_eqb, not-true, not-false}
use lib.Dec.{leb, eqb}
use Rattle.timetable.specs.Timetable.{Stop, Trip}
use Rattle.timetable.specs.Words.{station_count, trip_count, stop_count, stop_at, start_at, trip_at, is_timetable}
use Rattle.timetable.specs.Check.{stops_at, between, between_more, between_none}
use Rattle.timetable.specs.Access.{counts, start_most, trip_long, trip_stops_lem}
use Rattle.lines.specs.Lines.{stop_behind, behind, first_departure}

-- ---- where a trip's stops stand
pub trip_from : (w : List ℕ) (z first end : ℕ) → first ≡ start_at w z → end ≡ start_at w (z + 1)
    → trip_at w z ≡ stops_at w first end
unfolding trip_at between
trip_from w z first end is-first is-end = rw (is-first, is-end)

module _ (w : List ℕ) (yes : is_timetable w ≡ true) where
  pub few_stations : station_count w ≤ 64
  few_stations = (counts w yes).stations

  pub few_stops : stop_count w ≤ 2048
  few_stops = (counts w yes).stops

  module _ (z : ℕ) (h : z < trip_count w) where
    pub few_trips : z ≤ 256
    few_trips = omega (arith, (counts w yes).trips)

    pub few_ends : z + 1 ≤ 256
    few_ends = omega (arith, (counts w yes).trips)

    pub end_fits : z + 1 < 2 ^ 64
    end_fits = omega (arith, (counts w yes).trips)

    module _ (first end : ℕ) (is-first : first ≡ start_at w z) (is-end : end ≡ start_at w (z + 1)) where
      pub some_stops : first < end
      some_stops = omega (arith, trip_stops_lem w yes z h)

      pub end_most : end ≤ 2048
      end_most = omega (arith, start_most w yes (z + 1) (omega arith), few_stops)

      pub first_departs : first < end → (s : Stop) → s ≡ stop_at w first → s.depart ≡ first_departure (trip_at w z)
      first_departs g s is =
          ap (λ (x : Stop). x.depart) is
          ∙ sym (ap first_departure (trip_from w z first end is-first is-end ∙ between_more (stop_at w) first end g))

-- ---- one stop behind another
module _ (s u : Stop) where
  pub unlike_station : (s.station ≡ u.station → ⊥) → false ≡ stop_behind s u
  unlike_station h = simp (ne_eqb s.station u.station h)

  module _ (e : s.station ≡ u.station) where
    pub unlike_points : (s.points ≡ u.points → ⊥) → false ≡ stop_behind s u
    unlike_points h = simp (eq-eqb s.station u.station e, ne_eqb s.points u.points h)

    module _ (f : s.points ≡ u.points) where
      pub unlike_mark : (s.mark ≡ u.mark → ⊥) → false ≡ stop_behind s u
      unlike_mark h =
          simp (
            eq-eqb s.station u.station e,
            eq-eqb s.points u.points f,
            ne_eqb s.mark u.mark h,
          )

      module _ (g : s.mark ≡ u.mark) where
        pub arrives_earlier : u.arrive < s.arrive → false ≡ stop_behind s u
        arrives_earlier h =
            simp (
              eq-eqb s.station u.station e,
              eq-eqb s.points u.points f,
              eq-eqb s.mark u.mark g,
              lt-leb s.arrive u.arrive h,
            )

        pub departure_decides : s.arrive ≤ u.arrive → leb s.depart u.depart ≡ stop_behind s u
        departure_decides h =
            simp (
              eq-eqb s.station u.station e,
              eq-eqb s.points u.points f,
              eq-eqb s.mark u.mark g,
              le-leb s.arrive u.arrive h,
            )

-- ---- one trip behind another
-- what is left of two trips: the stops from i up to m, and those from j up to n
unfoldable pub rest_behind : List ℕ → (i m j n : ℕ) → Bool
rest_behind w i m j n = behind (stops_at w i m) (stops_at w j n)

-- trips of unlike length never run one behind the other
unlike_long : (u v : Trip) → (length u ≡ length v → ⊥) → behind u v ≡ false
unlike_long [] [] h = absurd (h refl)
unlike_long [] (s ∷ l) h = refl
unlike_long (s ∷ k) [] h = refl
unlike_long (s ∷ k) (u ∷ l) h =
    elim (stop_behind s u) as (λ t. (t && behind k l) ≡ false) [
      | true ↦ unlike_long k l (λ e. h (ap suc e))
      | false ↦ refl
    ]

module _ (w : List ℕ) (a b i j m n : ℕ) (e : i ≡ start_at w a) (f : m ≡ start_at w (a + 1)) (g : j ≡ start_at w b)
    (h : n ≡ start_at w (b + 1)) where
  pub other_length : (n - j ≡ m - i → ⊥) → false ≡ behind (trip_at w a) (trip_at w b)
  other_length ne =
      sym
      (unlike_long (trip_at w a) (trip_at w b)
      (λ same. ne (omega (arith, trip_long w a, trip_long w b, same, e, f, g, h))))

  pub whole_trips : behind (trip_at w a) (trip_at w b) ≡ rest_behind w (i + 0) m (j + 0) n
  unfolding rest_behind
  whole_trips = rw (add-zero i, add-zero j, trip_from w a i m e f, trip_from w b j n g h)

module _ (w : List ℕ) (whole : Bool) (i j m n k count : ℕ) (left : whole ≡ rest_behind w (i + k) m (j + k) n)
    (some : i < m) (is_count : count ≡ m - i) (other : j < n) (same : n - j ≡ count) where
  pub both_end : count ≤ k → true ≡ whole
  unfolding rest_behind
  both_end h =
      sym
      (left
      ∙ rw (between_none (stop_at w) (i + k) m (omega arith), between_none (stop_at w) (j + k) n (omega arith)))

  -- the answer t of the stop test stands before the test: `search` then knows which test is meant
  module _ (h : k < count) (s u : Stop) (t : Bool) where
    next : t ≡ stop_behind s u → s ≡ stop_at w (i + k) → u ≡ stop_at w (j + k)
        → whole ≡ (t && rest_behind w (i + k + 1) m (j + k + 1) n)
    unfolding rest_behind
    next test is-s is-u =
        left
        ∙ rw (
          between_more (stop_at w) (i + k) m (omega arith),
          between_more (stop_at w) (j + k) n (omega arith),
          test,
          is-s,
          is-u,
        )

    pub parts_here : not t ≡ true → t ≡ stop_behind s u → s ≡ stop_at w (i + k) → u ≡ stop_at w (j + k)
        → false ≡ whole
    parts_here e test is-s is-u = sym (next test is-s is-u ∙ rw (not-true t e))

    pub agrees_here : not t ≡ false → t ≡ stop_behind s u → s ≡ stop_at w (i + k) → u ≡ stop_at w (j + k)
        → whole ≡ rest_behind w (i + (k + 1)) m (j + (k + 1)) n
    agrees_here e test is-s is-u =
        let front : i + k + 1 ≡ i + (k + 1) = omega arith in
        let back : j + k + 1 ≡ j + (k + 1) = omega arith in
        next test is-s is-u ∙ rw (not-false t e) (λ z. rest_behind w (front z) m (back z) n)
