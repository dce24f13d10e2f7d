-- The loops over the stops of a trip and over trips.
use mathlib.Core.Path.{◌≡◌, refl, sym, ap, ◌∙◌}
use mathlib.Core.Bool.{Bool, true, false, not, ◌&&◌}
use mathlib.Core.List.{List, ◌∷◌}
use Prim.Native.Nat.{ℕ, ◌+◌, ◌≤◌, ◌<◌}
use native.Mathlib.Omega.{arith}
use borrow.Author.Tests.{le-leb, lt-leb, not-true, not-false}
use lib.Dec.{leb, eqb}
use Rattle.lists.specs.Tests.{and_true, and_false}
use Rattle.timetable.specs.Timetable.{Stop, ends, follows, runs, valid_trip, valid_trips}
use Rattle.timetable.specs.Words.{stop_at, start_at, trip_at, rise}
use Rattle.timetable.specs.Check.{stops_at, trips_at, starts_at, trips_test, between, between_more, between_none}
use Rattle.timetable.specs.Check.{rise_most}
use Rattle.timetable_trips.specs.Steps.{begins, passes}

-- ---- stops of a trip, one by one
pub run_starts : (w : List ℕ) (n : ℕ) (s : Stop) (i first end : ℕ) → s ≡ stop_at w first
    → runs n (stop_at w first) (stops_at w i end) ≡ runs n s (stops_at w i end)
run_starts w n s i first end e = ap (λ (b : Stop). runs n b (stops_at w i end)) (sym e)

module _ (w : List ℕ) (n : ℕ) (whole : Bool) (before : Stop) (i end : ℕ)
    (left : whole ≡ runs n before (stops_at w i end)) where
  pub run_short : end ≤ i → false ≡ whole
  unfolding runs
  run_short e = sym (left ∙ ap (runs n before) (between_none (stop_at w) i end e))

  module _ (s : Stop) (is : s ≡ stop_at w i) (h : i < end) where
    module _ (e : i + 1 ≡ end) (t : Bool) (after : t ≡ follows n before s) where
      last : whole ≡ (t && ends s)
      unfolding runs
      last =
          left
          ∙ ap (runs n before)
          (between_more (stop_at w) i end (omega arith)
          ∙ ap (λ l. stop_at w i ∷ l) (between_none (stop_at w) (i + 1) end (omega arith)))
          ∙ rw (after, is)

      pub run_ends : t ≡ true → (u : Bool) → u ≡ ends s → u ≡ whole
      run_ends y u f = f ∙ sym (last ∙ rw y)

      pub run_astray : t ≡ false → false ≡ whole
      run_astray y = sym (last ∙ rw y)

    module _ (e : i + 1 ≡ end → ⊥) (t : Bool) (on : t ≡ passes n before s) where
      middle : whole ≡ (t && runs n s (stops_at w (i + 1) end))
      unfolding runs passes
      middle =
          let two = between_more (stop_at w) (i + 1) end (omega arith) in
          left
          ∙ ap (runs n before) (between_more (stop_at w) i end (omega arith) ∙ ap (λ l. stop_at w i ∷ l) two)
          ∙ rw (on, is, two)

      pub run_breaks : not t ≡ true → false ≡ whole
      run_breaks y = sym (middle ∙ rw (not-true t y))

      pub run_goes_on : not t ≡ false → whole ≡ runs n s (stops_at w (i + 1) end)
      run_goes_on y = middle ∙ rw (not-false t y)

-- ---- a trip
module _ (w : List ℕ) (n first end : ℕ) where
  pub trip_empty : end ≤ first → false ≡ valid_trip n (stops_at w first end)
  unfolding valid_trip
  trip_empty h = sym (ap (valid_trip n) (between_none (stop_at w) first end h))

  module _ (h : first < end) (s : Stop) (is : s ≡ stop_at w first) (t : Bool) (test : t ≡ begins n s) where
    begun : valid_trip n (stops_at w first end) ≡ (t && runs n (stop_at w first) (stops_at w (first + 1) end))
    unfolding valid_trip begins
    begun = ap (valid_trip n) (between_more (stop_at w) first end h) ∙ rw (test, is)

    pub trip_unbegun : not t ≡ true → false ≡ valid_trip n (stops_at w first end)
    trip_unbegun y = sym (begun ∙ rw (not-true t y))

    pub trip_begun : not t ≡ false → (u : Bool) → u ≡ runs n (stop_at w first) (stops_at w (first + 1) end)
        → u ≡ valid_trip n (stops_at w first end)
    trip_begun y u e = e ∙ sym (begun ∙ rw (not-false t y))

-- ---- trips, one by one
rise_beyond : (b : ℕ) (l : List ℕ) (n : ℕ) → n < b → rise b l n ≡ false
rise_beyond b l n h = by_test (rise b l n) (rise_most b l n)
  where
    by_test : (t : Bool) → (t ≡ true → b ≤ n) → t ≡ false
    by_test true f = absurd (omega (arith, f refl))
    by_test false f = refl

module _ (w : List ℕ) (n stops k first trips : ℕ) (whole : Bool)
    (left : whole ≡ trips_test w n stops k first trips) where
  pub trips_done : k ≤ trips → trips ≤ k → eqb first stops ≡ whole
  unfolding trips_test rise valid_trips
  trips_done h g =
      sym
      (left
      ∙ rw (between_none (start_at w) (k + 1) (trips + 1) (omega arith), between_none (trip_at w) k trips g)
      (and_true (eqb first stops)))

  module _ (h : k < trips) (end : ℕ) (is-end : end ≡ start_at w (k + 1)) where
    rises : rise first (starts_at w (k + 1) (trips + 1)) stops
        ≡ (leb first end && rise end (starts_at w (k + 1 + 1) (trips + 1)) stops)
    unfolding rise
    rises = rw (between_more (start_at w) (k + 1) (trips + 1) (omega arith), is-end)

    pub trip_falls : end < first → false ≡ whole
    unfolding trips_test
    trip_falls e = sym (left ∙ rw (rises, lt-leb first end e))

    pub trip_beyond : stops < end → false ≡ whole
    unfolding trips_test
    trip_beyond e =
        let rest : List ℕ = starts_at w (k + 1 + 1) (trips + 1) in
        sym (left ∙ rw (rises, and_false (leb first end) (rise end rest stops) (rise_beyond end rest stops e)))

    module _ (is-first : first ≡ start_at w k) (t : Bool) (test : t ≡ valid_trip n (stops_at w first end)) where
      goes : valid_trips n (trips_at w k trips) ≡ (t && valid_trips n (trips_at w (k + 1) trips))
      unfolding valid_trips trip_at between
      goes = rw (between_more (trip_at w) k trips h, test, is-first, is-end)

      pub trip_bad : not t ≡ true → false ≡ whole
      unfolding trips_test
      trip_bad e =
          let none : valid_trips n (trips_at w k trips) ≡ false = goes ∙ rw (not-true t e) in
          sym
          (left
          ∙ and_false (rise first (starts_at w (k + 1) (trips + 1)) stops) (valid_trips n (trips_at w k trips)) none)

      pub trip_good : not t ≡ false → first ≤ end → whole ≡ trips_test w n stops (k + 1) end trips
      unfolding trips_test
      trip_good e f = left ∙ rw (rises, goes, not-false t e, le-leb first end f)
