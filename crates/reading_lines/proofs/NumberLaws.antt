-- The ways out of the functions that put the questions to a line, on plain values.
use mathlib.Core.Path.{◌≡◌, sym, ◌∙◌}
use mathlib.Core.Path.{refl}
use mathlib.Core.Bool.{Bool, true, false, cond, not, ◌&&◌, ◌||◌}
use mathlib.Core.List.{[], ◌∷◌}
use Prim.Native.Nat.{ℕ, ◌+◌, ◌≤◌, ◌<◌}
use native.Mathlib.Omega.{arith}
use borrow.Author.Tests.{lt-ltb, le-ltb, le-leb, lt-leb, eq-eqb, ne_eqb, not-true, not-false}
use lib.Dec.{leb, ltb, eqb}
use Rattle.text.specs.Range.{in_range, range_number, range_in, range_out, range_three, range_is}
use Rattle.questions.specs.Question.{ask, first_no}
use Rattle.text_shapes.specs.declared.StationLine.{StationLine}
use Rattle.text_shapes.specs.declared.WalkLine.{WalkLine}
use Rattle.text_shapes.specs.declared.StopLine.{StopLine}
use Rattle.reading_lines.specs.Draft.{walk_in_range, stop_in_range}
use Rattle.reading_lines.specs.Progress.{
  place_of_station,
  station_number_at,
  rises_at,
  room_for_walk,
  walk_fits_at,
  walk_number_at,
  stop_number_at,
  stop_fits_at,
}
use Rattle.reading_lines.specs.declared.Progress.{Progress}

-- ---- what the number of question 3 says of its test
pub asked_no : (b : Bool) (t : ℕ) → t ≡ cond b 0 3 → (t ≡ 0 → ⊥) → b ≡ false
asked_no true t is h = absurd (h is)
asked_no false t is h = refl

pub asked_yes : (b : Bool) (t : ℕ) → t ≡ cond b 0 3 → t ≡ 0 → b ≡ true
asked_yes true t is e = refl
asked_yes false t is e = absurd (omega arith)

-- ---- a station line
module _ (p : Progress) (l : StationLine) (m : ℕ) (is_m : m ≡ range_number 1 l.minutes) where
  pub minutes_refused : (m ≡ 0 → ⊥) → m ≡ station_number_at p l
  unfolding station_number_at
  minutes_refused h =
      range_three 1 l.minutes m is_m h
      ∙ simp (range_out 1 l.minutes m is_m h)

  module _ (in-m : m ≡ 0) (q : ℕ) (is-q : q ≡ range_number 2 l.points) where
    pub points_refused : (q ≡ 0 → ⊥) → q ≡ station_number_at p l
    unfolding station_number_at
    points_refused h =
        range_three 2 l.points q is-q h
        ∙ simp (range_in 1 l.minutes m is_m in-m, range_out 2 l.points q is-q h)

    module _ (in-q : q ≡ 0) where
      station_in_range_lem : (in_range 1 l.minutes && in_range 2 l.points) ≡ true
      station_in_range_lem = simp (range_in 1 l.minutes m is_m in-m, range_in 2 l.points q is-q in-q)

      pub behind_walks : (p.walks ≡ 0 → ⊥) → 4 ≡ station_number_at p l
      unfolding station_number_at
      behind_walks h = simp (station_in_range_lem, ne_eqb p.walks 0 h)

      module _ (no_Walk : p.walks ≡ 0) where
        pub behind_stops : (p.stops ≡ 0 → ⊥) → 4 ≡ station_number_at p l
        unfolding station_number_at
        behind_stops h = simp (station_in_range_lem, eq-eqb p.walks 0 no_Walk, ne_eqb p.stops 0 h)

        module _ (none : p.stops ≡ 0) where
          pub out_of_turn : (l.number ≡ p.stations + 1 → ⊥) → 4 ≡ station_number_at p l
          unfolding station_number_at
          out_of_turn h =
              simp (
                station_in_range_lem,
                eq-eqb p.walks 0 no_Walk,
                eq-eqb p.stops 0 none,
                ne_eqb l.number (p.stations + 1) h,
              )

          module _ (turn : l.number ≡ p.stations + 1) where
            station_in_place_lem : place_of_station p l ≡ true
            station_in_place_lem =
                simp (
                  eq-eqb p.walks 0 no_Walk,
                  eq-eqb p.stops 0 none,
                  eq-eqb l.number (p.stations + 1) turn,
                )

            pub stations_full : 64 ≤ p.stations → 5 ≡ station_number_at p l
            unfolding station_number_at
            stations_full h = simp (station_in_range_lem, station_in_place_lem, le-ltb p.stations 64 h)

            pub station_taken : p.stations < 64 → 0 ≡ station_number_at p l
            unfolding station_number_at
            station_taken h = simp (station_in_range_lem, station_in_place_lem, lt-ltb p.stations 64 h)

-- ---- a walk line: its range
module _ (l : WalkLine) (m : ℕ) (is_m : m ≡ range_number 6 l.minutes) where
  pub walk_minutes_out : (m ≡ 0 → ⊥) → m ≡ cond (walk_in_range l) 0 3
  walk_minutes_out h = range_three 6 l.minutes m is_m h ∙ simp (range_out 6 l.minutes m is_m h)

  pub walk_points_decide : m ≡ 0 → (q : ℕ) → q ≡ range_number 2 l.points → q ≡ cond (walk_in_range l) 0 3
  walk_points_decide in-m q is-q = range_is 2 l.points q is-q ∙ sym (simp (range_in 6 l.minutes m is_m in-m))

-- its order
module _ (p : Progress) (l : WalkLine) where
  pub first_walk : p.walks ≡ 0 → true ≡ rises_at p l
  unfolding rises_at
  first_walk h = simp (eq-eqb p.walks 0 h)

  module _ (some : p.walks ≡ 0 → ⊥) where
    pub later_from : p.from < l.from → true ≡ rises_at p l
    unfolding rises_at
    later_from h = simp (ne_eqb p.walks 0 some, lt-ltb p.from l.from h)

    module _ (least : l.from ≤ p.from) where
      pub earlier_from : (p.from ≡ l.from → ⊥) → false ≡ rises_at p l
      unfolding rises_at
      earlier_from h =
          simp (ne_eqb p.walks 0 some, le-ltb p.from l.from least, ne_eqb p.from l.from h)

      pub same_from : p.from ≡ l.from → ltb p.to l.to ≡ rises_at p l
      unfolding rises_at
      same_from h =
          simp (ne_eqb p.walks 0 some, le-ltb p.from l.from least, eq-eqb p.from l.from h)

  -- question 6
  pub from_none : l.from < 1 → false ≡ walk_fits_at p l
  unfolding walk_fits_at
  from_none h = simp (lt-leb 1 l.from h)

  module _ (some : 1 ≤ l.from) where
    pub from_unlisted : p.stations < l.from → false ≡ walk_fits_at p l
    unfolding walk_fits_at
    from_unlisted h = simp (le-leb 1 l.from some, lt-leb l.from p.stations h)

    module _ (listed : l.from ≤ p.stations) where
      pub to_none : l.to < 1 → false ≡ walk_fits_at p l
      unfolding walk_fits_at
      to_none h = simp (le-leb 1 l.from some, le-leb l.from p.stations listed, lt-leb 1 l.to h)

      pub to_decides : 1 ≤ l.to → leb l.to p.stations ≡ walk_fits_at p l
      unfolding walk_fits_at
      to_decides h = simp (le-leb 1 l.from some, le-leb l.from p.stations listed, le-leb 1 l.to h)

-- and all questions
module _ (p : Progress) (l : WalkLine) (t : ℕ) (is_t : t ≡ cond (walk_in_range l) 0 3) where
  pub walk_out_of_range : (t ≡ 0 → ⊥) → t ≡ walk_number_at p l
  unfolding walk_number_at
  walk_out_of_range h = is_t ∙ simp (asked_no (walk_in_range l) t is_t h)

  module _ (still : t ≡ 0) where
    walk_in_range_lem : walk_in_range l ≡ true
    walk_in_range_lem = asked_yes (walk_in_range l) t is_t still

    pub walk_behind_stops : (p.stops ≡ 0 → ⊥) → 4 ≡ walk_number_at p l
    unfolding walk_number_at
    walk_behind_stops h = simp (walk_in_range_lem, ne_eqb p.stops 0 h)

    module _ (none : p.stops ≡ 0) (u : Bool) (is-u : u ≡ rises_at p l) where
      pub walk_falls : not u ≡ true → 4 ≡ walk_number_at p l
      unfolding walk_number_at
      walk_falls h = simp (walk_in_range_lem, eq-eqb p.stops 0 none, ← is-u, not-true u h)

      module _ (up : not u ≡ false) where
        walk_placed : walk_number_at p l ≡ first_no (ask 5 (room_for_walk p) ∷ ask 6 (walk_fits_at p l) ∷ [])
        unfolding walk_number_at
        walk_placed = simp (walk_in_range_lem, eq-eqb p.stops 0 none, ← is-u, not-false u up)

        pub walks_full : 256 ≤ p.walks → 5 ≡ walk_number_at p l
        walks_full h = sym (walk_placed ∙ simp (le-ltb p.walks 256 h))

        module _ (few : p.walks < 256) (f : Bool) (is_f : f ≡ walk_fits_at p l) where
          pub walk_taken : f ≡ true → 0 ≡ walk_number_at p l
          walk_taken h = sym (walk_placed ∙ simp (lt-ltb p.walks 256 few, ← is_f, h))

          pub walk_refused : f ≡ false → 6 ≡ walk_number_at p l
          walk_refused h = sym (walk_placed ∙ simp (lt-ltb p.walks 256 few, ← is_f, h))

-- ---- question 6 to a stop line
module _ (p : Progress) (l : StopLine) where
  pub no_station_lem : l.station < 1 → false ≡ stop_fits_at p l
  unfolding stop_fits_at
  no_station_lem h = simp (lt-leb 1 l.station h)

  module _ (some : 1 ≤ l.station) where
    pub unlisted : p.stations < l.station → false ≡ stop_fits_at p l
    unfolding stop_fits_at
    unlisted h = simp (le-leb 1 l.station some, lt-leb l.station p.stations h)

    module _ (listed : l.station ≤ p.stations) where
      is_listed : (leb 1 l.station && leb l.station p.stations) ≡ true
      is_listed = simp (le-leb 1 l.station some, le-leb l.station p.stations listed)

      pub first_fits : p.begun ≡ 0 → true ≡ stop_fits_at p l
      unfolding stop_fits_at
      first_fits h = simp (is_listed, eq-eqb p.begun 0 h)

      module _ (goes_on : p.begun ≡ 0 → ⊥) where
        pub same_station : l.station ≡ p.station → false ≡ stop_fits_at p l
        unfolding stop_fits_at
        same_station h = simp (is_listed, ne_eqb p.begun 0 goes_on, eq-eqb l.station p.station h)

        module _ (unlike : l.station ≡ p.station → ⊥) where
          pub too_early : l.arrive ≤ p.depart → false ≡ stop_fits_at p l
          unfolding stop_fits_at
          too_early h =
              simp (
                is_listed,
                ne_eqb p.begun 0 goes_on,
                ne_eqb l.station p.station unlike,
                le-ltb p.depart l.arrive h,
              )

          module _ (after : p.depart < l.arrive) where
            by_last : stop_fits_at p l ≡ (l.last || leb l.arrive l.depart)
            unfolding stop_fits_at
            by_last =
                simp (
                  is_listed,
                  ne_eqb p.begun 0 goes_on,
                  ne_eqb l.station p.station unlike,
                  lt-ltb p.depart l.arrive after,
                )

            pub last_fits : l.last ≡ true → true ≡ stop_fits_at p l
            last_fits h = simp (by_last, h)

            pub middle_fits : l.last ≡ false → leb l.arrive l.depart ≡ stop_fits_at p l
            middle_fits h = simp (by_last, h)

-- ---- a stop line: its range
module _ (l : StopLine) (a : ℕ) (is-a : a ≡ range_number 3 l.arrive) where
  pub arrive_out : (a ≡ 0 → ⊥) → a ≡ cond (stop_in_range l) 0 3
  unfolding stop_in_range
  arrive_out h = range_three 3 l.arrive a is-a h ∙ simp (range_out 3 l.arrive a is-a h)

  module _ (in-a : a ≡ 0) (d : ℕ) (is-d : d ≡ range_number 3 l.depart) where
    pub depart_out : (d ≡ 0 → ⊥) → d ≡ cond (stop_in_range l) 0 3
    unfolding stop_in_range
    depart_out h =
        range_three 3 l.depart d is-d h
        ∙ simp (range_in 3 l.arrive a is-a in-a, range_out 3 l.depart d is-d h)

    module _ (in-d : d ≡ 0) (q : ℕ) (is-q : q ≡ range_number 4 l.points) where
      pub ride_out : (q ≡ 0 → ⊥) → q ≡ cond (stop_in_range l) 0 3
      unfolding stop_in_range
      ride_out h =
          range_three 4 l.points q is-q h
          ∙ simp (
            range_in 3 l.arrive a is-a in-a,
            range_in 3 l.depart d is-d in-d,
            range_out 4 l.points q is-q h,
          )

      pub mark_decides : q ≡ 0 → (m : ℕ) → m ≡ range_number 5 l.mark → m ≡ cond (stop_in_range l) 0 3
      unfolding stop_in_range
      mark_decides in-q m is_m =
          range_is 5 l.mark m is_m
          ∙ sym
          (simp (
            range_in 3 l.arrive a is-a in-a,
            range_in 3 l.depart d is-d in-d,
            range_in 4 l.points q is-q in-q,
          ))

-- ---- a stop line: all questions
module _ (p : Progress) (l : StopLine) (t : ℕ) (is_t : t ≡ cond (stop_in_range l) 0 3) where
  pub out_of_range : (t ≡ 0 → ⊥) → t ≡ stop_number_at p l
  unfolding stop_number_at
  out_of_range h = is_t ∙ simp (asked_no (stop_in_range l) t is_t h)

  module _ (still : t ≡ 0) where
    in_range_lem : stop_in_range l ≡ true
    in_range_lem = asked_yes (stop_in_range l) t is_t still

    pub other_trip : (l.trip ≡ p.trips + 1 → ⊥) → 4 ≡ stop_number_at p l
    unfolding stop_number_at
    other_trip h = simp (in_range_lem, ne_eqb l.trip (p.trips + 1) h)

    module _ (trip : l.trip ≡ p.trips + 1) where
      pub other_stop : (l.stop ≡ p.begun + 1 → ⊥) → 4 ≡ stop_number_at p l
      unfolding stop_number_at
      other_stop h = simp (in_range_lem, eq-eqb l.trip (p.trips + 1) trip, ne_eqb l.stop (p.begun + 1) h)

      module _ (stop : l.stop ≡ p.begun + 1) where
        stop_in_place_lem : (eqb l.trip (p.trips + 1) && eqb l.stop (p.begun + 1)) ≡ true
        stop_in_place_lem = simp (eq-eqb l.trip (p.trips + 1) trip, eq-eqb l.stop (p.begun + 1) stop)

        pub trips_full : 256 ≤ p.trips → 5 ≡ stop_number_at p l
        unfolding stop_number_at
        trips_full h = simp (in_range_lem, stop_in_place_lem, le-ltb p.trips 256 h)

        module _ (trips : p.trips < 256) where
          pub stops_full : 2048 ≤ p.stops → 5 ≡ stop_number_at p l
          unfolding stop_number_at
          stops_full h = simp (in_range_lem, stop_in_place_lem, lt-ltb p.trips 256 trips, le-ltb p.stops 2048 h)

          module _ (stops : p.stops < 2048) (f : Bool) (is_f : f ≡ stop_fits_at p l) where
            stop_counted_lem : (ltb p.trips 256 && ltb p.stops 2048) ≡ true
            stop_counted_lem = simp (lt-ltb p.trips 256 trips, lt-ltb p.stops 2048 stops)

            pub stop_taken : f ≡ true → 0 ≡ stop_number_at p l
            unfolding stop_number_at
            stop_taken h = simp (in_range_lem, stop_in_place_lem, stop_counted_lem, ← is_f, h)

            pub stop_refused : f ≡ false → 6 ≡ stop_number_at p l
            unfolding stop_number_at
            stop_refused h = simp (in_range_lem, stop_in_place_lem, stop_counted_lem, ← is_f, h)
