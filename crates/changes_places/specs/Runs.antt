-- Trips that follow one another in a timetable's words: their stops, where they end, and their numbers; and what a list
-- is without what stands at a place, or with more there.
use Rattle.std.specs.Prelude.{◌≡◌, true, take, drop}
use Rattle.std.proofs.Math.Path.{refl, ap}
use Rattle.std.proofs.Common.{sym, ◌∙◌, add-one, length-append, take_at, drop_at}
use mathlib.Core.List.{List, [], ◌∷◌, ◌++◌, map, map-append}
use Prim.Native.Nat.{ℕ, zero, suc, ◌+◌, ◌-◌, ◌≤◌}
use native.Mathlib.Omega.{arith}
use Rattle.std.proofs.Math.ListN.{length, length-map}
use Rattle.lists.specs.Lists.{range}
use Rattle.lists.specs.Ranges.{length_range}
use Rattle.timetable.specs.Timetable.{Trip, stops_of}
use Rattle.timetable.specs.Words.{start_words, station_count, trip_count, stop_count, station_at, start_at, stop_at}
use Rattle.timetable.specs.Words.{trip_at}
use Rattle.timetable.specs.Words.{number_at, timetable_of, is_timetable}
use Rattle.timetable.specs.Check.{stations_at, trips_at, stops_at, numbers_at, between, between_more, between_none}
use Rattle.timetable.specs.Access.{trip_stops_lem, start_first, start_last}

-- where the trips from one place up to another end, if so many stops stand before them
unfoldable pub ends_at : List ℕ → (from to stops : ℕ) → List ℕ
ends_at w from to stops = map (λ k. stops + (start_at w (k + 1) - start_at w from)) (range from (to - from))

-- ---- from one place up to another, and on
range_split : (k a b : ℕ) → range k (a + b) ≡ range k a ++ range (k + a) b
range_split k zero b =
    let same : k ≡ k + 0 = omega arith in
    let all : 0 + b ≡ b = omega arith in
    λ i. range (same i) (all i)
range_split k (suc a) b =
    let more : suc a + b ≡ suc (a + b) = omega arith in
    let same : suc k + a ≡ k + suc a = omega arith in
    ap (range k) more ∙ ap (λ l. k ∷ l) (range_split (suc k) a b ∙ ap (λ j. range (suc k) a ++ range j b) same)

module _ {A : Type 0} (f : ℕ → A) where
  pub between_split : (a b c : ℕ) → a ≤ b → b ≤ c → between f a c ≡ between f a b ++ between f b c
  unfolding between
  between_split a b c h g =
      let whole : c - a ≡ b - a + (c - b) = omega arith in
      let middle : a + (b - a) ≡ b = omega arith in
      ap (λ n. map f (range a n)) whole
      ∙ ap (map f) (range_split a (b - a) (c - b) ∙ ap (λ k. range a (b - a) ++ range k (c - b)) middle)
      ∙ map-append f (range a (b - a)) (range b (c - b))

  pub between_long : (a b : ℕ) → length (between f a b) ≡ b - a
  unfolding between
  between_long a b = length-map (range a (b - a)) f ∙ length_range a (b - a)

  pub between_take : (k n : ℕ) → k ≤ n → take k (between f 0 n) ≡ between f 0 k
  between_take k n h =
      let long : length (between f 0 k) ≡ k = omega (arith, between_long 0 k) in
      ap (take k) (between_split 0 k n (omega arith) h) ∙ take_at (between f 0 k) (between f k n) k long

  pub between_drop : (k n : ℕ) → k ≤ n → drop k (between f 0 n) ≡ between f k n
  between_drop k n h =
      let long : length (between f 0 k) ≡ k = omega (arith, between_long 0 k) in
      ap (drop k) (between_split 0 k n (omega arith) h) ∙ drop_at (between f 0 k) (between f k n) k long

-- ---- all stations, all trips, and all numbers
pub stations_are : (w : List ℕ) → (timetable_of w).stations ≡ stations_at w 0 (station_count w)
unfolding timetable_of between
stations_are w =
    let all : station_count w ≡ station_count w - 0 = omega arith in
    ap (λ n. map (station_at w) (range 0 n)) all

module _ (w : List ℕ) where
  pub trips_are : (timetable_of w).trips ≡ trips_at w 0 (trip_count w)
  unfolding timetable_of between
  trips_are = let all : trip_count w ≡ trip_count w - 0 = omega arith in ap (λ n. map (trip_at w) (range 0 n)) all

  pub numbers_are : (timetable_of w).numbers ≡ numbers_at w 0 (trip_count w)
  unfolding timetable_of between
  numbers_are = let all : trip_count w ≡ trip_count w - 0 = omega arith in ap (λ n. map (number_at w) (range 0 n)) all

-- ---- their stops
module _ (w : List ℕ) (yes : is_timetable w ≡ true) where
  pub starts_rise : (k n : ℕ) → k + n ≤ trip_count w → start_at w k ≤ start_at w (k + n)
  starts_rise k zero h = let same : k ≡ k + 0 = omega arith in omega (arith, ap (start_at w) same)
  starts_rise k (suc n) h =
      let same : k + suc n ≡ k + n + 1 = omega arith in
      omega (
        arith,
        starts_rise k n (omega arith),
        trip_stops_lem w yes (k + n) (omega arith),
        ap (start_at w) same,
      )

  pub starts_up : (a b : ℕ) → a ≤ b → b ≤ trip_count w → start_at w a ≤ start_at w b
  starts_up a b h g =
      let same : a + (b - a) ≡ b = omega arith in
      omega (arith, starts_rise a (b - a) (omega arith), ap (start_at w) same)

  trip_run : (k : ℕ) → trip_at w k ≡ stops_at w (start_at w k) (start_at w (k + 1))
  unfolding trip_at between
  trip_run k = refl

  pub stops_run : (a n : ℕ) → a + n ≤ trip_count w
      → stops_of (trips_at w a (a + n)) ≡ stops_at w (start_at w a) (start_at w (a + n))
  stops_run a zero h =
      let same : a + 0 ≡ a = omega arith in
      ap stops_of (between_none (trip_at w) a (a + 0) (omega arith))
      ∙ sym (between_none (stop_at w) (start_at w a) (start_at w (a + 0)) (omega (arith, ap (start_at w) same)))
  stops_run a (suc n) h =
      let next : a + suc n ≡ a + 1 + n = omega arith in
      let rest = stops_run (a + 1) n (omega arith) in
      let up = trip_stops_lem w yes a (omega arith) in
      let on = starts_rise (a + 1) n (omega arith) in
      ap (λ k. stops_of (trips_at w a k)) next
      ∙ ap stops_of (between_more (trip_at w) a (a + 1 + n) (omega arith))
      ∙ (λ i. trip_run a i ++ rest i)
      ∙ sym (between_split (stop_at w) (start_at w a) (start_at w (a + 1)) (start_at w (a + 1 + n)) (omega arith) on)
      ∙ ap (λ k. stops_at w (start_at w a) (start_at w k)) (sym next)

  -- where they end, behind so many stops
  ends_from_lem : (from stops a n : ℕ) → from ≤ a → a + n ≤ trip_count w
      → start_words (stops + (start_at w a - start_at w from)) (trips_at w a (a + n))
      ≡ (stops + (start_at w a - start_at w from))
      ∷ map (λ k. stops + (start_at w (k + 1) - start_at w from)) (range a n)
  unfolding start_words
  ends_from_lem from stops a zero g h =
      ap (start_words (stops + (start_at w a - start_at w from))) (between_none (trip_at w) a (a + 0) (omega arith))
  ends_from_lem from stops a (suc n) g h =
      let next : a + suc n ≡ a + 1 + n = omega arith in
      let up = trip_stops_lem w yes a (omega arith) in
      let low = starts_up from a g (omega arith) in
      let long : length (trip_at w a) ≡ start_at w (a + 1) - start_at w a =
      ap length (trip_run a) ∙ between_long (stop_at w) (start_at w a) (start_at w (a + 1)) in
      let here = stops + (start_at w a - start_at w from) in
      let sum : here + length (trip_at w a) ≡ stops + (start_at w (a + 1) - start_at w from) = omega arith in
      ap (λ k. start_words here (trips_at w a k)) next
      ∙ ap (start_words here) (between_more (trip_at w) a (a + 1 + n) (omega arith))
      ∙ ap (λ k. here ∷ start_words k (trips_at w (a + 1) (a + 1 + n))) sum
      ∙ ap (λ l. here ∷ l) (ends_from_lem from stops (a + 1) n (omega arith) (omega arith))
      ∙ ap (λ k. here ∷ (stops + (start_at w (a + 1) - start_at w from))
      ∷ map (λ j. stops + (start_at w (j + 1) - start_at w from)) (range k n)) (add-one a)

  pub ends_run : (from to stops : ℕ) → from ≤ to → to ≤ trip_count w
      → start_words stops (trips_at w from to) ≡ stops ∷ ends_at w from to stops
  unfolding ends_at
  ends_run from to stops h g =
      let whole : from + (to - from) ≡ to = omega arith in
      let none : stops + (start_at w from - start_at w from) ≡ stops = omega arith in
      ap (λ k. start_words stops (trips_at w from k)) (sym whole)
      ∙ ap (λ k. start_words k (trips_at w from (from + (to - from)))) (sym none)
      ∙ ends_from_lem from stops from (to - from) (omega arith) (omega arith)
      ∙ ap (λ k. k ∷ map (λ j. stops + (start_at w (j + 1) - start_at w from)) (range from (to - from))) none

pub length_ends_at : (w : List ℕ) (from to stops : ℕ) → length (ends_at w from to stops) ≡ to - from
unfolding ends_at
length_ends_at w from to stops = length-map (range from (to - from)) _ ∙ length_range from (to - from)

-- the stops of all trips
pub all_stops : (w : List ℕ) → is_timetable w ≡ true → length (stops_of (timetable_of w).trips) ≡ stop_count w
all_stops w okay =
    let none : 0 + trip_count w ≡ trip_count w = omega arith in
    ap (λ l. length (stops_of l)) (trips_are w ∙ ap (trips_at w 0) (sym none))
    ∙ ap length (stops_run w okay 0 (trip_count w) (omega arith))
    ∙ between_long (stop_at w) (start_at w 0) (start_at w (0 + trip_count w))
    ∙ omega (arith, start_first w okay, start_last w okay, ap (start_at w) none)

-- starts of trips behind trips
pub starts_join : (k : ℕ) (a b : List Trip) (ends : List ℕ)
    → start_words (k + length (stops_of a)) b ≡ (k + length (stops_of a)) ∷ ends
    → start_words k (a ++ b) ≡ start_words k a ++ ends
unfolding start_words
starts_join k [] b ends e =
    let none : k + 0 ≡ k = omega arith in
    ap (λ j. start_words j b) (sym none) ∙ e ∙ ap (λ j. j ∷ ends) none
starts_join k (t ∷ a) b ends e =
    let sum : k + length (t ++ stops_of a) ≡ k + length t + length (stops_of a) =
    omega (arith, length-append t (stops_of a)) in
    ap (λ l. k ∷ l)
    (starts_join (k + length t) a b ends
    (ap (λ j. start_words j b) (sym sum) ∙ e ∙ ap (λ j. j ∷ ends) sum))
