-- Trips put behind those that stand in the three arrays.
use mathlib.Core.Path.{◌≡◌, refl, sym, ap, ◌∙◌}
use mathlib.Core.Bool.{true}
use mathlib.Core.List.{List, ◌∷◌, ◌++◌, append_assoc}
use Prim.Native.Nat.{ℕ, ◌+◌, ◌-◌, ◌*◌, ◌≤◌}
use native.Mathlib.Omega.{arith}
use lib.ListN.{length, get_or, length-append}
use Rattle.words.specs.Put.{put, put_append}
use Rattle.timetable.specs.Timetable.{Station, Trip, stops_of}
use Rattle.timetable.specs.Words.{station_words, stop_words, start_words, station_count, trip_count, start_at, stop_at}
use Rattle.timetable.specs.Words.{trip_at}
use Rattle.timetable.specs.Words.{number_at, is_timetable}
use Rattle.timetable.specs.WordLaws.{length_station_words, length_stop_words, length_start_words, stop_words_append}
use Rattle.timetable.specs.WordLaws.{stops_of_append}
use Rattle.timetable.specs.Check.{trips_at, stops_at, numbers_at}
use Rattle.timetable.specs.Access.{stations_few, trips_few, stops_few, start_most}
use Rattle.changes_places.specs.Runs.{ends_at, between_long, starts_up, stops_run, ends_run, starts_join}
use Rattle.changes_words.specs.Appended.{Held, Extends}
use Rattle.changes_words.specs.declared.Counts.{Counts}

pub place_most : (w : List ℕ) (from to : ℕ) → is_timetable w ≡ true → from ≤ to → to ≤ trip_count w → from ≤ 256
place_most w from to okay h g = omega (arith, trips_few w okay)

pub last_most : (w : List ℕ) (to : ℕ) → is_timetable w ≡ true → to ≤ trip_count w → to ≤ 256
last_most w to okay g = omega (arith, trips_few w okay)

module _ (w : List ℕ) (okay : is_timetable w ≡ true) (from to first end : ℕ) (h : from ≤ to) (g : to ≤ trip_count w)
    (is-first : first ≡ start_at w from) (is-end : end ≡ start_at w to) where
  pub run_up : first ≤ end
  run_up = omega (arith, starts_up w okay from to h g)

  pub run_few : end ≤ 2048
  run_few = omega (arith, start_most w okay to g, stops_few w okay)

  module _ (p : Counts) (few : p.stops + (start_at w to - start_at w from) ≤ 2048) where
    pub run_room : (s : ℕ) → s ≡ get_or w 0 0 → 2 * s + 5 * p.stops + 5 * (end - first) ≤ 10368
    run_room s is = omega (arith, stations_few w okay)

    pub run_sum : p.stops + (end - first) ≡ p.stops + (start_at w to - start_at w from)
    run_sum = λ i. p.stops + (is-end i - is-first i)

-- ---- what is appended
module _ (w : List ℕ) (okay : is_timetable w ≡ true) (from to first end s : ℕ) (p q : Counts)
    (body starts numbers body' starts' numbers' : List ℕ)
    (h : from ≤ to) (g : to ≤ trip_count w)
    (fit : p.trips + (to - from) ≤ 256)
    (few : p.stops + (start_at w to - start_at w from) ≤ 2048)
    (is-first : first ≡ start_at w from) (is-end : end ≡ start_at w to) (is-s : s ≡ get_or w 0 0)
    (wrote-body : body' ≡ put (2 * s + 5 * p.stops) (stop_words (stops_at w first end)) body)
    (wrote-numbers : numbers' ≡ put p.trips (numbers_at w from to) numbers)
    (wrote-starts : starts' ≡ put (p.trips + 1) (ends_at w from to p.stops) starts)
    (is_trips : q.trips ≡ p.trips + (to - from)) (is-stops : q.stops ≡ p.stops + (end - first))
  where
    abbrev us : List Trip
    us = trips_at w from to

    stops_are : stops_of us ≡ stops_at w first end
    stops_are =
        let whole : from + (to - from) ≡ to = omega arith in
        ap (λ k. stops_of (trips_at w from k)) (sym whole)
        ∙ stops_run w okay from (to - from) (omega arith)
        ∙ ap (λ k. stops_at w (start_at w from) (start_at w k)) whole
        ∙ sym (λ i. stops_at w (is-first i) (is-end i))

    stops_many : length (stops_of us) ≡ end - first
    stops_many = ap length stops_are ∙ between_long (stop_at w) first end

    trips_many : length us ≡ to - from
    trips_many = between_long (trip_at w) from to

    numbers_many : length (numbers_at w from to) ≡ to - from
    numbers_many = between_long (number_at w) from to

    module _ (st : List Station) (ts : List Trip) (ns body₀ starts₀ numbers₀ : List ℕ)
        (stations : length st ≡ station_count w)
        (body_room : length body₀ ≡ 10368) (starts_room : length starts₀ ≡ 257) (numbers-room : length numbers₀ ≡ 256)
        (held : Held st ts ns p body starts numbers body₀ starts₀ numbers₀) where
      abbrev front : List ℕ
      front = station_words st ++ stop_words (stops_of ts)

      front_long : length front ≡ 2 * s + 5 * p.stops
      front_long =
          omega (
            arith,
            length-append (station_words st) (stop_words (stops_of ts)),
            length_station_words st,
            length_stop_words (stops_of ts),
            stations,
            is-s,
            held.stops,
          )

      body_is : body' ≡ put 0 (station_words st ++ stop_words (stops_of (ts ++ us))) body₀
      body_is =
          let at : 2 * s + 5 * p.stops ≡ 0 + length front = omega (arith, front_long) in
          let all : front ++ stop_words (stops_at w first end) ≡ station_words st ++ stop_words (stops_of (ts ++ us)) =
          append_assoc (station_words st) (stop_words (stops_of ts)) (stop_words (stops_at w first end))
          ∙ ap (λ l. station_words st ++ l)
          (ap (λ l. stop_words (stops_of ts) ++ stop_words l) (sym stops_are)
          ∙ sym (stop_words_append (stops_of ts) (stops_of us))
          ∙ ap stop_words (sym (stops_of_append ts us))) in
          wrote-body
          ∙ (λ i. put (at i) (stop_words (stops_at w first end)) (held.is_body i))
          ∙ put_append 0 (length front) front (stop_words (stops_at w first end)) body₀ refl
          (omega (arith, front_long, stations_few w okay))
          ∙ ap (λ l. put 0 l body₀) all

      starts_are : starts' ≡ put 0 (start_words 0 (ts ++ us)) starts₀
      starts_are =
          let marks = start_words 0 ts in
          let long : length marks ≡ p.trips + 1 = omega (arith, length_start_words 0 ts, held.trips) in
          let at : p.trips + 1 ≡ 0 + length marks = omega (arith, long) in
          let same : p.stops ≡ 0 + length (stops_of ts) = omega (arith, held.stops) in
          let ends = ends_run w okay from to p.stops h g in
          let join : start_words 0 (ts ++ us) ≡ marks ++ ends_at w from to p.stops =
          starts_join 0 ts us (ends_at w from to p.stops)
          (ap (λ k. start_words k us) (sym same) ∙ ends ∙ ap (λ k. k ∷ ends_at w from to p.stops) same) in
          wrote-starts
          ∙ (λ i. put (at i) (ends_at w from to p.stops) (held.is_starts i))
          ∙ put_append 0 (length marks) marks (ends_at w from to p.stops) starts₀ refl (omega (arith, long))
          ∙ ap (λ l. put 0 l starts₀) (sym join)

      numbers_are : numbers' ≡ put 0 (ns ++ numbers_at w from to) numbers₀
      numbers_are =
          let at : p.trips ≡ 0 + length ns = omega (arith, held.trips, held.all_numbered) in
          wrote-numbers
          ∙ (λ i. put (at i) (numbers_at w from to) (held.is_numbers i))
          ∙ put_append 0 (length ns) ns (numbers_at w from to) numbers₀ refl (omega arith)

      holds_more : Held st (ts ++ us) (ns ++ numbers_at w from to) q body' starts' numbers' body₀ starts₀ numbers₀
      holds_more =
          record {
            is_body = body_is;
            is_starts = starts_are;
            is_numbers = numbers_are;
            trips = omega (arith, length-append ts us, trips_many, held.trips);
            stops =
                omega (
                  arith,
                  ap length (stops_of_append ts us),
                  length-append (stops_of ts) (stops_of us),
                  stops_many,
                  held.stops,
                );
            all_numbered =
                omega (
                  arith,
                  length-append ns (numbers_at w from to),
                  length-append ts us,
                  trips_many,
                  numbers_many,
                  held.all_numbered,
                );
          }

    pub extends : Extends w from to p q body starts numbers body' starts' numbers'
    extends = record { holds = holds_more }
