-- A timetable's words, whatever stands behind them, spell this timetable: what the words hold is read off from the
-- index where it stands, station by station, stop by stop, trip by trip, number by number and walk by walk.
use Rattle.std.specs.Prelude.{◌≡◌, true, eqb}
use Rattle.std.proofs.Math.Path.{refl, sym, ap}
use Rattle.std.proofs.Common.{◌∙◌, length-append, add_assoc, le-leb, eq-eqb}
use mathlib.Core.List.{List, [], ◌∷◌, ◌++◌, map, append_assoc}
use Prim.Native.Nat.{ℕ, suc, ◌+◌, ◌-◌, ◌*◌}
use Rattle.std.proofs.Math.ListN.{length, get_or, drop}
use Rattle.std.proofs.Math.Nat.{zero-add}
use Rattle.std.proofs.Math.Numerals.{add-one}
use native.Mathlib.Omega.{arith}
use Rattle.lists.specs.Lists.{range, same}
use Rattle.lists.specs.Members.{same_refl}
use Rattle.lists.specs.Tests.{and_both, T_true}
use Rattle.timetable.specs.Timetable.{Station, Stop, Trip, Timetable, stops_of}
use Rattle.timetable.specs.Words.{station_words, stop_words, start_words, walk_words, count_to, foot_words, words}
use Rattle.timetable.specs.Words.{station_count, stop_count}
use Rattle.timetable.specs.Words.{station_at, stop_in, stop_place, trip_count, stop_at, start_at, trip_at, number_at}
use Rattle.timetable.specs.Words.{foot_place}
use Rattle.timetable.specs.Words.{walks_to, walk_place, walk_in, walk_at, timetable_of, rise, chained, footed}
use Rattle.timetable.specs.WordLaws.{length_station_words, length_stop_words, length_start_words, length_foot_words}
use Rattle.timetable.specs.WordLaws.{stop_words_append, walks_from}
use Rattle.timetable.specs.Access.{map_numbers}
use Rattle.accepted.specs.Lists.{head_at, past_at}

-- ---- how many words
-- where the trips end
later_starts : ℕ → List Trip → List ℕ
later_starts k [] = []
later_starts k (t ∷ l) = (k + length t) ∷ later_starts (k + length t) l

starts_later : (k : ℕ) (l : List Trip) → start_words k l ≡ k ∷ later_starts k l
unfolding start_words later_starts
starts_later k [] = refl
starts_later k (t ∷ l) = ap (λ r. k ∷ r) (starts_later (k + length t) l)

-- ---- read off
module _ (w : List ℕ) where
  stations_at_lem : (k : ℕ) (l : List Station) (more : List ℕ) → drop (3 + 2 * k) w ≡ station_words l ++ more
      → map (station_at w) (range k (length l)) ≡ l
  unfolding station_words station_at
  stations_at_lem k [] more e = refl
  stations_at_lem k (s ∷ l) more e =
      let next = past_at w (3 + 2 * k) 1 (s.minutes ∷ []) (s.points ∷ station_words l ++ more) refl e in
      let last = past_at w (3 + 2 * k) 2 (s.minutes ∷ s.points ∷ []) (station_words l ++ more) refl e in
      let place : 3 + 2 * suc k ≡ 3 + 2 * k + 2 = omega arith in
      λ i. record {
        minutes = head_at w (3 + 2 * k) s.minutes (s.points ∷ station_words l ++ more) e i;
        points = head_at w (3 + 2 * k + 1) s.points (station_words l ++ more) next i;
      } ∷ stations_at_lem (suc k) l more (ap (λ n. drop n w) place ∙ last) i

  stops_at : (k : ℕ) (l : List Stop) (more : List ℕ) → drop (stop_place w k) w ≡ stop_words l ++ more
      → map (stop_at w) (range k (length l)) ≡ l
  unfolding stop_words stop_at stop_in
  stops_at k [] more e = refl
  stops_at k (s ∷ l) more e =
      let at = stop_place w k in
      let rest = stop_words l ++ more in
      let one = past_at w at 1 (s.station ∷ []) (s.arrive ∷ s.depart ∷ s.points ∷ s.mark ∷ rest) refl e in
      let two = past_at w at 2 (s.station ∷ s.arrive ∷ []) (s.depart ∷ s.points ∷ s.mark ∷ rest) refl e in
      let three = past_at w at 3 (s.station ∷ s.arrive ∷ s.depart ∷ []) (s.points ∷ s.mark ∷ rest) refl e in
      let four = past_at w at 4 (s.station ∷ s.arrive ∷ s.depart ∷ s.points ∷ []) (s.mark ∷ rest) refl e in
      let all = past_at w at 5 (s.station ∷ s.arrive ∷ s.depart ∷ s.points ∷ s.mark ∷ []) rest refl e in
      let place : stop_place w (suc k) ≡ at + 5 = omega arith in
      λ i. record {
        station = head_at w at s.station (s.arrive ∷ s.depart ∷ s.points ∷ s.mark ∷ rest) e i;
        arrive = head_at w (at + 1) s.arrive (s.depart ∷ s.points ∷ s.mark ∷ rest) one i;
        depart = head_at w (at + 2) s.depart (s.points ∷ s.mark ∷ rest) two i;
        points = head_at w (at + 3) s.points (s.mark ∷ rest) three i;
        mark = head_at w (at + 4) s.mark rest four i;
      } ∷ stops_at (suc k) l more (ap (λ n. drop n w) place ∙ all) i

  -- where the starts stand
  abbrev starts_place : ℕ
  starts_place = stop_place w (stop_count w)

  start_at_lem : (j k : ℕ) (l : List ℕ) → drop (starts_place + j) w ≡ k ∷ l → start_at w j ≡ k
  unfolding start_at
  start_at_lem j k l e = head_at w (starts_place + j) k l e

  -- words that stand from a place on: the starts, the numbers of trips, the counts of walks by station
  words_at : (place j : ℕ) (l more : List ℕ) → drop (place + j) w ≡ l ++ more
      → map (λ k. get_or w (place + k) 0) (range j (length l)) ≡ l
  words_at place j [] more e = refl
  words_at place j (k ∷ l) more e =
      let on : place + suc j ≡ place + j + 1 = omega arith in
      let next = past_at w (place + j) 1 (k ∷ []) (l ++ more) refl e in
      λ i. head_at w (place + j) k (l ++ more) e i ∷ words_at place (suc j) l more (ap (λ n. drop n w) on ∙ next) i

  -- where the numbers stand
  abbrev numbers_place : ℕ
  numbers_place = starts_place + (trip_count w + 1)

  stops_past : (k : ℕ) (t : Trip) (more : List ℕ) → drop (stop_place w k) w ≡ stop_words t ++ more
      → drop (stop_place w (k + length t)) w ≡ more
  stops_past k t more e =
      let place : stop_place w (k + length t) ≡ stop_place w k + 5 * length t = omega arith in
      ap (λ n. drop n w) place
      ∙ past_at w (stop_place w k) (5 * length t) (stop_words t) more (length_stop_words t) e

  first_start : (j k : ℕ) (l : List Trip) (past : List ℕ) → drop (starts_place + j) w ≡ start_words k l ++ past
      → start_at w j ≡ k
  first_start j k l past f = start_at_lem j k (later_starts k l ++ past) (f ∙ ap (λ r. r ++ past) (starts_later k l))

  trip_at_lem : (k j : ℕ) (t : Trip) (more : List ℕ) → start_at w j ≡ k → start_at w (j + 1) ≡ k + length t
      → drop (stop_place w k) w ≡ stop_words t ++ more → trip_at w j ≡ t
  unfolding trip_at
  trip_at_lem k j t more here there e =
      let count : k + length t - k ≡ length t = omega arith in
      rw (here, there, count) (stops_at k t more e)

  trips_at_lem : (k j : ℕ) (l : List Trip) (more past : List ℕ) → drop (stop_place w k) w ≡ stop_words (stops_of l) ++
      more
      → drop (starts_place + j) w ≡ start_words k l ++ past → map (trip_at w) (range j (length l)) ≡ l
  unfolding start_words
  trips_at_lem k j [] more past e f = refl
  trips_at_lem k j (t ∷ l) more past e f =
      let rest : List ℕ = stop_words (stops_of l) ++ more in
      let apart : drop (stop_place w k) w ≡ stop_words t ++ rest =
      e
      ∙ ap (λ r. r ++ more) (stop_words_append t (stops_of l))
      ∙ append_assoc (stop_words t) (stop_words (stops_of l)) more in
      let next : drop (starts_place + (j + 1)) w ≡ start_words (k + length t) l ++ past =
      rw (← add_assoc) (past_at w (starts_place + j) 1 (k ∷ []) (start_words (k + length t) l ++ past) refl f) in
      let this = trip_at_lem k j t rest (start_at_lem j k _ f) (first_start (j + 1) (k + length t) l past next) apart in
      λ i. this i
      ∷ trips_at_lem (k + length t) (suc j) l more past (stops_past k t rest apart) (rw (← add-one j) next) i

-- ---- the whole
module _ (t : Timetable) (rest : List ℕ) where
  -- behind the counts of walks, behind the numbers, behind the starts
  abbrev behind : List ℕ
  behind = walk_words t.walks ++ rest

  abbrev walking : List ℕ
  walking = foot_words (length t.stations) t.walks ++ behind

  abbrev past : List ℕ
  past = t.numbers ++ walking

  -- the stations' words stand behind the three counts, the stops' words behind those, then the starts, the numbers, and
  -- what is said of walks
  from_stations : drop 3 (words t ++ rest)
      ≡ station_words t.stations ++ (stop_words (stops_of t.trips) ++ (start_words 0 t.trips ++ past))
  unfolding words
  from_stations = simp append_assoc

  from_stops : drop (stop_place (words t ++ rest) 0) (words t ++ rest)
      ≡ stop_words (stops_of t.trips) ++ (start_words 0 t.trips ++ past)
  unfolding words
  from_stops =
      let place : stop_place (words t ++ rest) 0 ≡ 3 + 2 * length t.stations = omega arith in
      ap (λ n. drop n (words t ++ rest)) place
      ∙ past_at (words t ++ rest) 3 (2 * length t.stations) (station_words t.stations) _
      (length_station_words t.stations) from_stations

  from_starts : drop (starts_place (words t ++ rest) + 0) (words t ++ rest) ≡ start_words 0 t.trips ++ past
  unfolding words
  from_starts =
      let place : starts_place (words t ++ rest) + 0 ≡ stop_place (words t ++ rest) (0 + length (stops_of t.trips)) =
      omega arith in
      ap (λ n. drop n (words t ++ rest)) place ∙ stops_past (words t ++ rest) 0 (stops_of t.trips) _ from_stops

  from_numbers : drop (numbers_place (words t ++ rest) + 0) (words t ++ rest) ≡ past
  unfolding words
  from_numbers =
      let at = starts_place (words t ++ rest) in
      let place : numbers_place (words t ++ rest) + 0 ≡ at + 0 + (length t.trips + 1) = omega arith in
      ap (λ n. drop n (words t ++ rest)) place
      ∙ past_at (words t ++ rest) (at + 0) (length t.trips + 1) (start_words 0 t.trips) past
      (length_start_words 0 t.trips) from_starts

  -- where each trip has a number
  module _ (many : length t.numbers ≡ length t.trips) where
    from_foot : drop (foot_place (words t ++ rest) + 0) (words t ++ rest) ≡ walking
    unfolding words
    from_foot =
        let at = numbers_place (words t ++ rest) in
        let place : foot_place (words t ++ rest) + 0 ≡ at + 0 + length t.trips = omega arith in
        ap (λ n. drop n (words t ++ rest)) place
        ∙ past_at (words t ++ rest) (at + 0) (length t.trips) t.numbers walking many from_numbers

    from_walks : drop (walk_place (words t ++ rest) 0) (words t ++ rest) ≡ behind
    unfolding words
    from_walks =
        let at = foot_place (words t ++ rest) in
        let foot = foot_words (length t.stations) t.walks in
        let place : walk_place (words t ++ rest) 0 ≡ at + 0 + (length t.stations + 1) = omega arith in
        ap (λ n. drop n (words t ++ rest)) place
        ∙ past_at (words t ++ rest) (at + 0) (length t.stations + 1) foot behind
        (length_foot_words (length t.stations) t.walks) from_foot

    counts_spelled : map (walks_to (words t ++ rest)) (range 0 (suc (length t.stations)))
        ≡ foot_words (length t.stations) t.walks
    unfolding walks_to
    counts_spelled =
        let foot = foot_words (length t.stations) t.walks in
        let long : suc (length t.stations) ≡ length foot =
        omega (arith, length_foot_words (length t.stations) t.walks) in
        ap (λ n. map (walks_to (words t ++ rest)) (range 0 n)) long
        ∙ words_at (words t ++ rest) (foot_place (words t ++ rest)) 0 foot behind from_foot

    -- and each walk is from a station that is listed
    module _ (listed : count_to t.walks (length t.stations) ≡ length t.walks) where
      walk_count_lem : walks_to (words t ++ rest) (length t.stations) ≡ length t.walks
      unfolding foot_words
      walk_count_lem =
          let n = length t.stations in
          let told : get_or (map (walks_to (words t ++ rest)) (range 0 (suc n))) n 0 ≡ walks_to (words t ++ rest)
          (0 + n) =
          map_numbers (walks_to (words t ++ rest)) 0 (suc n) n 0 (omega arith) in
          let counted : get_or (map (count_to t.walks) (range 0 (suc n))) n 0 ≡ count_to t.walks (0 + n) =
          map_numbers (count_to t.walks) 0 (suc n) n 0 (omega arith) in
          sym (rw zero-add at told) ∙ ap (λ l. get_or l n 0) counts_spelled ∙ (rw zero-add at counted) ∙ listed

      walks_spelled : map (walk_at (words t ++ rest)) (range 0 (walks_to (words t ++ rest) (length t.stations)))
          ≡ t.walks
      unfolding walk_at walk_in
      walks_spelled =
          let place = foot_place (words t ++ rest) + (station_count (words t ++ rest) + 1) in
          ap (λ n. map (walk_at (words t ++ rest)) (range 0 n)) walk_count_lem
          ∙ walks_from (words t ++ rest) place 0 t.walks rest from_walks

      pub words_spell : timetable_of (words t ++ rest) ≡ t
      unfolding timetable_of number_at words
      words_spell =
          let numbers : map (number_at (words t ++ rest)) (range 0 (length t.trips)) ≡ t.numbers =
          ap (λ n. map (number_at (words t ++ rest)) (range 0 n)) (sym many)
          ∙ words_at (words t ++ rest) (numbers_place (words t ++ rest)) 0 t.numbers walking from_numbers in
          λ i. record {
            stations = stations_at_lem (words t ++ rest) 0 t.stations _ from_stations i;
            walks = walks_spelled i;
            numbers = numbers i;
            trips = trips_at_lem (words t ++ rest) 0 0 t.trips _ past from_stops from_starts i;
          }

      -- the counts of walks by station are those of the walks
      pub words_footed : footed (words t ++ rest) ≡ true
      unfolding footed words
      words_footed =
          let n = length t.stations in
          let counts : List ℕ = map (walks_to (words t ++ rest)) (range 0 (suc n)) in
          let all : counts ≡ foot_words n (timetable_of (words t ++ rest)).walks =
          counts_spelled ∙ ap (λ u. foot_words n u.walks) (sym words_spell) in
          ap (same counts) (sym all) ∙ T_true (same counts counts) (same_refl counts)

-- ---- the trips follow one another
length_later : (k : ℕ) (l : List Trip) → length (later_starts k l) ≡ length l
unfolding later_starts
length_later k [] = refl
length_later k (t ∷ l) = ap suc (length_later (k + length t) l)

rises : (k : ℕ) (l : List Trip) → rise k (later_starts k l) (k + length (stops_of l)) ≡ true
unfolding rise later_starts
rises k [] = eq-eqb k (k + 0) (omega arith)
rises k (t ∷ l) =
    let all : k + length (t ++ stops_of l) ≡ k + length t + length (stops_of l) =
    omega (arith, length-append t (stops_of l)) in
    rw all (and_both _ _ (le-leb k (k + length t) (omega arith)) (rises (k + length t) l))

module _ (t : Timetable) (rest : List ℕ) where
  from_later : drop (starts_place (words t ++ rest) + 1) (words t ++ rest) ≡ later_starts 0 t.trips ++ past t rest
  from_later =
      let at = starts_place (words t ++ rest) in
      let place : at + 1 ≡ at + 0 + 1 = omega arith in
      ap (λ n. drop n (words t ++ rest)) place
      ∙ past_at (words t ++ rest) (at + 0) 1 (0 ∷ []) (later_starts 0 t.trips ++ past t rest) refl
      (from_starts t rest ∙ ap (λ r. r ++ past t rest) (starts_later 0 t.trips))

  later_spelled : map (start_at (words t ++ rest)) (range 1 (length t.trips)) ≡ later_starts 0 t.trips
  unfolding start_at
  later_spelled =
      rw (← length_later 0 t.trips)
      (words_at (words t ++ rest) (starts_place (words t ++ rest)) 1 (later_starts 0 t.trips) (past t rest) from_later)

  later_rises :
      rise 0 (map (start_at (words t ++ rest)) (range 1 (length t.trips))) (length (stops_of t.trips)) ≡ true
  later_rises = rw later_spelled (rw zero-add at (rises 0 t.trips))

  pub words_chained : chained (words t ++ rest) ≡ true
  unfolding chained words
  words_chained =
      and_both (eqb (start_at (words t ++ rest) 0) 0) _
      (eq-eqb (start_at (words t ++ rest) 0) 0
      (first_start (words t ++ rest) 0 0 t.trips (past t rest) (from_starts t rest)))
      later_rises
