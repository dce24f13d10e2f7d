-- The ways out of the functions that put the questions to a line of an extra trip, on plain values.
use mathlib.Core.Path.{◌≡◌, sym, ◌∙◌}
use mathlib.Core.Bool.{Bool, true, false, cond, not}
use mathlib.Core.List.{[], ◌∷◌}
use Prim.Native.Nat.{ℕ, ◌+◌, ◌≤◌, ◌<◌}
use borrow.Author.Tests.{lt-ltb, le-ltb, le-leb, lt-leb, eq-eqb, ne_eqb, not-true, not-false}
use lib.Dec.{ltb, eqb}
use Rattle.questions.specs.Question.{ask, first_no}
use Rattle.text.specs.Range.{range_number, range_in, range_out, range_three}
use Rattle.text_shapes.specs.declared.StationLine.{StationLine}
use Rattle.text_shapes.specs.declared.WalkLine.{WalkLine}
use Rattle.text_shapes.specs.declared.StopLine.{StopLine}
use Rattle.reading_lines.specs.Draft.{Rules, walk_in_range, stop_in_range, extra_station, extra_walk, extra_in_range}
use Rattle.reading_lines.specs.Progress.{stop_fits_at, place_of_extra, room_for_extra, extra_stop_at}
use Rattle.reading_lines.specs.declared.Progress.{Progress}
use Rattle.reading_lines.proofs.NumberLaws.{asked_no, asked_yes}

-- ---- which questions a line has
module _ (r : Rules) (a b n : ℕ) where
  pub extra_asked : r.extra ≡ true → n ≡ a → n ≡ cond r.extra a b
  extra_asked e f = f ∙ rw e

  pub text_asked : r.extra ≡ false → n ≡ b → n ≡ cond r.extra a b
  text_asked e f = f ∙ rw e

-- ---- a station line
module _ (l : StationLine) (m : ℕ) (is_m : m ≡ range_number 1 l.minutes) where
  pub extra_minutes : (m ≡ 0 → ⊥) → m ≡ extra_station l
  unfolding extra_station
  extra_minutes h = range_three 1 l.minutes m is_m h ∙ simp (range_out 1 l.minutes m is_m h)

  module _ (in-m : m ≡ 0) (q : ℕ) (is-q : q ≡ range_number 2 l.points) where
    pub extra_points : (q ≡ 0 → ⊥) → q ≡ extra_station l
    unfolding extra_station
    extra_points h =
        range_three 2 l.points q is-q h
        ∙ simp (range_in 1 l.minutes m is_m in-m, range_out 2 l.points q is-q h)

    pub extra_astray : q ≡ 0 → 4 ≡ extra_station l
    unfolding extra_station
    extra_astray h = simp (range_in 1 l.minutes m is_m in-m, range_in 2 l.points q is-q h)

-- ---- a walk line
module _ (l : WalkLine) (t : ℕ) (is_t : t ≡ cond (walk_in_range l) 0 3) where
  pub extra_walk_out : (t ≡ 0 → ⊥) → t ≡ extra_walk l
  unfolding extra_walk
  extra_walk_out h = is_t ∙ simp (asked_no (walk_in_range l) t is_t h)

  pub extra_walk_astray : t ≡ 0 → 4 ≡ extra_walk l
  unfolding extra_walk
  extra_walk_astray h = simp (asked_yes (walk_in_range l) t is_t h)

-- ---- a stop line: its range
module _ (l : StopLine) where
  pub no_trip : l.trip < 1 → ◌≡◌ {A = ℕ} 3 (cond (extra_in_range l) 0 3)
  no_trip h = simp (lt-leb 1 l.trip h)

  pub trip_some : 1 ≤ l.trip → (t : ℕ) → t ≡ cond (stop_in_range l) 0 3 → t ≡ cond (extra_in_range l) 0 3
  trip_some h t e = e ∙ simp (le-leb 1 l.trip h)

-- its place
module _ (r : Rules) (p : Progress) (l : StopLine) where
  pub other_number : (l.trip ≡ r.number → ⊥) → false ≡ place_of_extra r p l
  other_number h = simp (ne_eqb l.trip r.number h)

  module _ (number : l.trip ≡ r.number) where
    pub trip_past : (p.trips ≡ 0 → ⊥) → false ≡ place_of_extra r p l
    trip_past h = simp (eq-eqb l.trip r.number number, ne_eqb p.trips 0 h)

    pub stop_decides : p.trips ≡ 0 → eqb l.stop (p.begun + 1) ≡ place_of_extra r p l
    stop_decides none = simp (eq-eqb l.trip r.number number, eq-eqb p.trips 0 none)

-- the counts
module _ (r : Rules) (p : Progress) where
  pub trips_full : 256 ≤ r.trips + p.trips → false ≡ room_for_extra r p
  trips_full h = simp (le-ltb (r.trips + p.trips) 256 h)

  pub stops_decide : r.trips + p.trips < 256 → ltb (r.stops + p.stops) 2048 ≡ room_for_extra r p
  stops_decide h = simp (lt-ltb (r.trips + p.trips) 256 h)

-- and all questions
module _ (r : Rules) (p : Progress) (l : StopLine) (a : ℕ) (is-a : a ≡ cond (extra_in_range l) 0 3) where
  pub out_of_range : (a ≡ 0 → ⊥) → a ≡ extra_stop_at r p l
  unfolding extra_stop_at
  out_of_range h = is-a ∙ simp (asked_no (extra_in_range l) a is-a h)

  module _ (zero-a : a ≡ 0) (b : Bool) (is_b : b ≡ place_of_extra r p l) where
    in_range_lem : extra_in_range l ≡ true
    in_range_lem = asked_yes (extra_in_range l) a is-a zero-a

    pub out_of_place : not b ≡ true → 4 ≡ extra_stop_at r p l
    unfolding extra_stop_at
    out_of_place h = simp (in_range_lem, ← is_b, not-true b h)

    module _ (in_place : not b ≡ false) (c : Bool) (is_c : c ≡ room_for_extra r p) where
      pub too_many : not c ≡ true → 5 ≡ extra_stop_at r p l
      unfolding extra_stop_at
      too_many h = simp (in_range_lem, ← is_b, not-false b in_place, ← is_c, not-true c h)

      module _ (counted : not c ≡ false) (f : Bool) (is_f : f ≡ stop_fits_at p l) where
        all_asked : extra_stop_at r p l ≡ first_no (ask 6 f ∷ [])
        unfolding extra_stop_at
        all_asked =
            simp (in_range_lem, ← is_b, not-false b in_place, ← is_c, not-false c counted, ← is_f)

        pub stop_taken : f ≡ true → 0 ≡ extra_stop_at r p l
        stop_taken h = sym (all_asked ∙ simp h)

        pub stop_refused : f ≡ false → 6 ≡ extra_stop_at r p l
        stop_refused h = sym (all_asked ∙ simp h)
