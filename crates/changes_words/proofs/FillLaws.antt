-- The arrays in which a timetable is put together, from the stations on.
use mathlib.Core.Path.{◌≡◌, refl, sym, ap, transport, ◌∙◌}
use mathlib.Core.Bool.{true}
use mathlib.Core.List.{List, [], ◌∷◌, ◌++◌, append-nil}
use Prim.Native.Nat.{ℕ, suc, ◌+◌, ◌-◌, ◌≤◌, ◌<◌}
use native.Mathlib.Numerals.{add-one}
use native.Mathlib.Omega.{arith}
use lib.ListN.{length, get_or, take, drop, set}
use Rattle.words.specs.Put.{put, put_none, put_one}
use Rattle.timetable.specs.Timetable.{Timetable}
use Rattle.timetable.specs.Words.{station_words, stop_words, start_words, walk_words, words, joined, station_count}
use Rattle.timetable.specs.Words.{trip_count, stop_count, start_at, trip_at, number_at, walk_count, timetable_of}
use Rattle.timetable.specs.Words.{is_timetable}
use Rattle.timetable.specs.WordLaws.{joined_words}
use Rattle.timetable.specs.Check.{stations_at, trips_at, numbers_at, walks_at, length_stations, length_walks}
use Rattle.timetable.specs.Check.{walks_there}
use Rattle.timetable.specs.Walks.{walks_few}
use Rattle.timetable.specs.Access.{stations_few, trips_few, stops_few, start_first, start_last, start_most}
use Rattle.timetable.specs.Changes.{without}
use Rattle.changes_words.specs.Appended.{Held, Extends, Front, Middle, Filled, WrittenOver, Fitting, left_out}
use Rattle.changes_words.specs.Appended.{put_in}
use Rattle.changes_places.specs.Runs.{stations_are, between_take, between_drop, trips_are, numbers_are, starts_up}
use Rattle.changes_words.specs.declared.Counts.{Counts}

abbrev nothing : Counts
nothing = record { trips = 0; stops = 0 }

pub opened : (starts : List ℕ) → length starts ≡ 257 → set starts 0 0 ≡ put 0 (0 ∷ []) starts
opened starts room = put_one 0 starts 0 (omega arith)

held_none : (w body starts numbers body₁ starts₁ : List ℕ)
    → body₁ ≡ put 0 (station_words (stations_at w 0 (station_count w))) body → starts₁ ≡ put 0 (0 ∷ []) starts
    → Held (timetable_of w).stations [] [] nothing body₁ starts₁ numbers body starts numbers
unfolding stop_words start_words
held_none w body starts numbers body₁ starts₁ e f =
    record {
      is_body =
          e
          ∙ ap (λ l. put 0 l body)
          (ap station_words (sym (stations_are w)) ∙ sym (append-nil (station_words (timetable_of w).stations)));
      is_starts = f;
      is_numbers = sym (put_none 0 numbers);
      trips = refl;
      stops = refl;
      all_numbered = refl;
    }

-- ---- the trips before a place
module _ (w : List ℕ) (okay : is_timetable w ≡ true) (place : ℕ) (inside : place ≤ trip_count w) where
  pub front_few : 0 + (place - 0) ≤ 256
  front_few = omega (arith, trips_few w okay)

  pub front_stops : 0 + (start_at w place - start_at w 0) ≤ 2048
  front_stops = omega (arith, start_most w okay place inside, stops_few w okay)

  module _ (p : Counts) where
    pub front_trips : p.trips ≡ 0 + (place - 0) → p.trips ≡ place
    front_trips e = omega arith

    pub front_starts : p.stops ≡ 0 + (start_at w place - start_at w 0) → p.stops ≡ start_at w place
    front_starts e = omega (arith, start_first w okay)

pub filled_front : (w : List ℕ) (place : ℕ) (p : Counts)
    (body starts numbers body₁ starts₁ body₂ starts₂ numbers₂ : List ℕ) → length body ≡ 10368 → length starts ≡ 257
    → length numbers ≡ 256
    → body₁ ≡ put 0 (station_words (stations_at w 0 (station_count w))) body → starts₁ ≡ put 0 (0 ∷ []) starts
    → Extends w 0 place (record { trips = 0; stops = 0 }) p body₁ starts₁ numbers body₂ starts₂ numbers₂
    → Front w place p body₂ starts₂ numbers₂ body starts numbers
filled_front w place p body starts numbers body₁ starts₁ body₂ starts₂ numbers₂ h g k first opened front =
    front.holds (timetable_of w).stations [] [] body starts numbers (length_stations w) h g k
    (held_none w body starts numbers body₁ starts₁ first opened)

-- ---- all trips behind a place
module _ (w : List ℕ) (okay : is_timetable w ≡ true) (place trips : ℕ) (is : trips ≡ get_or w 1 0) where
  pub back_most : trips ≤ trip_count w
  back_most = omega arith

  back_up : place ≤ trip_count w → start_at w place ≤ start_at w trips
  back_up h = omega (arith, starts_up w okay place (trip_count w) h (omega arith), ap (start_at w) is)

  back_end : start_at w trips ≤ 2048
  back_end = omega (arith, start_most w okay trips (omega arith), stops_few w okay)

  back_last : start_at w trips ≡ stop_count w
  back_last = ap (start_at w) is ∙ start_last w okay

  -- without one trip
  module _ (inside : place < trip_count w) where
    pub after_least : place + 1 ≤ trips
    after_least = omega arith

    module _ (p : Counts) (many : p.trips ≡ place) (more : p.stops ≡ start_at w place) where
      pub after_few : p.trips + (trips - (place + 1)) ≤ 256
      after_few = omega (arith, trips_few w okay)

      pub after_stops : p.stops + (start_at w trips - start_at w (place + 1)) ≤ 2048
      after_stops =
          let up = starts_up w okay place (place + 1) (omega arith) (omega arith) in
          let on = starts_up w okay (place + 1) trips (omega arith) (omega arith) in
          omega (arith, up, on, back_end)

      module _ (q : Counts) where
        pub without_trips : q.trips ≡ p.trips + (trips - (place + 1)) → q.trips ≤ 256
        without_trips e = omega (arith, after_few)

        pub without_stops : q.stops ≡ p.stops + (start_at w trips - start_at w (place + 1)) → q.stops ≤ 2048
        without_stops e = omega (arith, after_stops)

        pub filled_without : (body starts numbers body₂ starts₂ numbers₂ body₃ starts₃ numbers₃ : List ℕ)
            → length body ≡ 10368 → length starts ≡ 257 → length numbers ≡ 256
            → Front w place p body₂ starts₂ numbers₂ body starts numbers
            → Extends w (place + 1) trips p q body₂ starts₂ numbers₂ body₃ starts₃ numbers₃
            → Filled (left_out (timetable_of w) place) q body₃ starts₃ numbers₃ body starts numbers
        unfolding left_out
        filled_without body starts numbers body₂ starts₂ numbers₂ body₃ starts₃ numbers₃ h g k front back =
            let st = (timetable_of w).stations in
            let all = back.holds st (trips_at w 0 place) (numbers_at w 0 place)
            body starts numbers (length_stations w) h g
            k front in
            transport (λ i. Held st (trips_left i) (numbers_left i) q body₃ starts₃ numbers₃ body starts numbers) all
          where
            trips_left : trips_at w 0 place ++ trips_at w (place + 1) trips ≡ without place (timetable_of w).trips
            trips_left =
                sym
                ((λ i. take place (trips_are w i) ++ drop (suc place) (trips_are w i))
                ∙ (λ i. between_take (trip_at w) place (trip_count w) (omega arith) i
                ++ between_drop (trip_at w) (suc place) (trip_count w) (omega arith) i)
                ∙ (λ i. trips_at w 0 place ++ trips_at w (sym (add-one place) i) (sym is i)))

            numbers_left : numbers_at w 0 place ++ numbers_at w (place + 1) trips
                ≡ without place (timetable_of w).numbers
            numbers_left =
                sym
                ((λ i. take place (numbers_are w i) ++ drop (suc place) (numbers_are w i))
                ∙ (λ i. between_take (number_at w) place (trip_count w) (omega arith) i
                ++ between_drop (number_at w) (suc place) (trip_count w) (omega arith) i)
                ∙ (λ i. numbers_at w 0 place ++ numbers_at w (sym (add-one place) i) (sym is i)))

-- ---- with the trip of another timetable
module _ (w : List ℕ) (okay : is_timetable w ≡ true) (place : ℕ) (inside : place ≤ trip_count w) (e : List ℕ)
    (fit : Fitting w e) where
  pub extra_okay : is_timetable e ≡ true
  extra_okay = fit.okay

  pub extra_least : 1 ≤ trip_count e
  extra_least = omega (arith, fit.one)

  extra_stops : start_at e 1 - start_at e 0 ≡ stop_count e
  extra_stops =
      omega (arith, start_first e fit.okay, start_last e fit.okay, ap (start_at e) fit.one)

  module _ (p : Counts) (many : p.trips ≡ place) (more : p.stops ≡ start_at w place) where
    pub extra_trips : p.trips + (1 - 0) ≤ 256
    extra_trips = omega (arith, fit.trips)

    pub extra_room : p.stops + (start_at e 1 - start_at e 0) ≤ 2048
    extra_room = omega (arith, extra_stops, fit.stops, start_most w okay place inside)

    module _ (o : Counts) where
      pub middle_trips : o.trips ≡ p.trips + (1 - 0) → o.trips ≡ place + 1
      middle_trips h = omega arith

      pub middle_stops : o.stops ≡ p.stops + (start_at e 1 - start_at e 0)
          → o.stops ≡ start_at w place + stop_count e
      middle_stops h = omega (arith, extra_stops)

      pub filled_middle : (body starts numbers body₂ starts₂ numbers₂ body₃ starts₃ numbers₃ : List ℕ)
          → length body ≡ 10368 → length starts ≡ 257 → length numbers ≡ 256
          → Front w place p body₂ starts₂ numbers₂ body starts numbers
          → Extends e 0 1 p o body₂ starts₂ numbers₂ body₃ starts₃ numbers₃
          → Middle w place e o body₃ starts₃ numbers₃ body starts numbers
      filled_middle body starts numbers body₂ starts₂ numbers₂ body₃ starts₃ numbers₃ h g k front mid =
          mid.holds (timetable_of w).stations (trips_at w 0 place) (numbers_at w 0 place) body starts numbers
          (length_stations w ∙ sym fit.stations) h g k front

  module _ (trips : ℕ) (is : trips ≡ get_or w 1 0) (o : Counts) (next : o.trips ≡ place + 1)
      (on : o.stops ≡ start_at w place + stop_count e) where
    pub place_least : place ≤ trips
    place_least = omega arith

    pub rest_trips : o.trips + (trips - place) ≤ 256
    rest_trips = omega (arith, fit.trips)

    pub rest_stops : o.stops + (start_at w trips - start_at w place) ≤ 2048
    rest_stops =
        omega (arith, fit.stops, back_up w okay place trips is inside, back_last w okay place trips is)

    module _ (q : Counts) where
      pub with_trips : q.trips ≡ o.trips + (trips - place) → q.trips ≤ 256
      with_trips h = omega (arith, rest_trips)

      pub with_stops : q.stops ≡ o.stops + (start_at w trips - start_at w place) → q.stops ≤ 2048
      with_stops h = omega (arith, rest_stops)

      pub filled_with : (body starts numbers body₂ starts₂ numbers₂ body₃ starts₃ numbers₃ : List ℕ)
          → length body ≡ 10368 → length starts ≡ 257 → length numbers ≡ 256
          → Middle w place e o body₂ starts₂ numbers₂ body starts numbers
          → Extends w place trips o q body₂ starts₂ numbers₂ body₃ starts₃ numbers₃
          → Filled (put_in (timetable_of w) place (timetable_of e)) q body₃ starts₃ numbers₃ body starts numbers
      unfolding put_in
      filled_with body starts numbers body₂ starts₂ numbers₂ body₃ starts₃ numbers₃ h g k middle back =
          let st = (timetable_of w).stations in
          let all = back.holds st (trips_at w 0 place ++ trips_at e 0 1) (numbers_at w 0 place ++ numbers_at e 0 1) body
          starts numbers (length_stations w) h g k middle in
          transport (λ i. Held st (trips_with i) (numbers_with i) q body₃ starts₃ numbers₃ body starts numbers) all
        where
          trips_with : trips_at w 0 place ++ trips_at e 0 1 ++ trips_at w place trips
              ≡ take place (timetable_of w).trips ++ (timetable_of e).trips ++ drop place (timetable_of w).trips
          trips_with =
              sym
              ((λ i. take place (trips_are w i) ++ trips_are e i ++ drop place (trips_are w i))
              ∙ (λ i. between_take (trip_at w) place (trip_count w) inside i
              ++ trips_at e 0 (fit.one i)
              ++ between_drop (trip_at w) place (trip_count w) inside i)
              ∙ (λ i. trips_at w 0 place ++ trips_at e 0 1 ++ trips_at w place (sym is i)))

          numbers_with : numbers_at w 0 place ++ numbers_at e 0 1 ++ numbers_at w place trips
              ≡ take place (timetable_of w).numbers
              ++ (timetable_of e).numbers
              ++ drop place (timetable_of w).numbers
          numbers_with =
              sym
              ((λ i. take place (numbers_are w i) ++ numbers_are e i ++ drop place (numbers_are w i))
              ∙ (λ i. between_take (number_at w) place (trip_count w) inside i
              ++ numbers_at e 0 (fit.one i)
              ++ between_drop (number_at w) place (trip_count w) inside i)
              ∙ (λ i. numbers_at w 0 place ++ numbers_at e 0 1 ++ numbers_at w place (sym is i)))

-- ---- the words of the timetable that the arrays hold
module _ (w : List ℕ) (okay : is_timetable w ≡ true) where
  pub few_stations : (s : ℕ) → s ≡ get_or w 0 0 → s ≤ 64
  few_stations s e = omega (arith, stations_few w okay)

  pub few_walks_lem : (k : ℕ) → k ≡ walk_count w → k ≤ 256
  few_walks_lem k e = omega (arith, walks_few w okay)

pub written_over : (w : List ℕ) (s k : ℕ) (p : Counts) (body starts numbers walking walking₀ out : List ℕ)
    → s ≡ get_or w 0 0 → k ≡ walk_count w
    → walking ≡ put 0 (walk_words (walks_at w 0 (walk_count w))) walking₀
    → out ≡ put 0 (joined s p.trips p.stops k body starts numbers walking) w
    → WrittenOver w p body starts numbers out
written_over w s k p body starts numbers walking walking₀ out is-s is-k copied wrote = record { is = over }
  where
    over : (t : Timetable) (body₀ starts₀ numbers₀ : List ℕ) → t.stations ≡ (timetable_of w).stations
        → t.walks ≡ (timetable_of w).walks → Filled t p body starts numbers body₀ starts₀ numbers₀
        → out ≡ put 0 (words t) w
    over t body₀ starts₀ numbers₀ same kept f =
        let stations : s ≡ length t.stations = is-s ∙ sym (length_stations w) ∙ ap length (sym same) in
        let walks : k ≡ length t.walks = is-k ∙ sym (length_walks w) ∙ ap length (sym kept) in
        let walked : walking ≡ put 0 (walk_words t.walks) walking₀ =
        copied ∙ ap (λ l. put 0 (walk_words l) walking₀) (sym (walks_there w) ∙ sym kept) in
        wrote
        ∙ ap (λ l. put 0 l w)
        (joined_words t s p.trips p.stops k stations f.trips f.stops walks body starts numbers walking body₀
        starts₀ numbers₀ walking₀ f.is_body f.is_starts f.is_numbers walked f.all_numbered)

-- cancelling and adding keep stations and walks
module _ (w : List ℕ) (p : Counts) (body starts numbers out : List ℕ) (over : WrittenOver w p body starts numbers out)
    (place : ℕ) (body₀ starts₀ numbers₀ : List ℕ)
  where
    pub left_words : Filled (left_out (timetable_of w) place) p body starts numbers body₀ starts₀ numbers₀
        → out ≡ put 0 (words (left_out (timetable_of w) place)) w
    unfolding left_out
    left_words f = over.is (left_out (timetable_of w) place) body₀ starts₀ numbers₀ refl refl f

    pub in_words : (e : List ℕ)
        → Filled (put_in (timetable_of w) place (timetable_of e)) p body starts numbers body₀ starts₀ numbers₀
        → out ≡ put 0 (words (put_in (timetable_of w) place (timetable_of e))) w
    unfolding put_in
    in_words e f = over.is (put_in (timetable_of w) place (timetable_of e)) body₀ starts₀ numbers₀ refl refl f
