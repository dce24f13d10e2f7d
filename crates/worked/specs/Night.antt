-- A second worked timetable beside M: six trips of one night, in which no two values are alike but where a tie or a
-- line asks for it. Its cases are replies and words of the calls, as those of M are. They were worked out by the
-- implementation in tests/, which is written from the documents alone (tests/tests/night.rs holds it and the library to
-- them). The theorem is `night_cases` in NightProofs.antt.
--
-- Trip 1 calls twice at station 4, and trips 5 and 6 share a line. Each step of the rule for equal cost settles a query
-- from a store that was made. `Stores`, `Shows`, `Asks` and `Rides` speak of slices of every length: of the result, and
-- of 15 where a slice is too short.
use Rattle.std.specs.Prelude.{◌≡◌, List, [], ◌∷◌, ◌++◌, ℕ, drop}
use Rattle.timetable.specs.Timetable.{Timetable}
use Rattle.timetable.specs.Worked.{station, stop}
use Rattle.accepted.specs.Cases.{bytes}
use Rattle.connections.specs.Worked.{one_ride, two_rides}
use Rattle.worked.specs.Calls.{Slices, returned, read, timetable_after, built, tables_after, trips_of}
use Rattle.worked.specs.Calls.{Stores, Shows, ShowsNone, IllMade, Asks, AsksNone, Rides, RidesNone}

unfoldable pub text_night : List ℕ
text_night =
    bytes "S,1,1,5\nS,2,7,27\nS,3,4,33\nS,4,3,29\nS,5,2,6\n"
    ++ bytes "T,1,1,4,,00:50,12,0\nT,1,2,1,00:52,00:55,14,0\nT,1,3,4,00:58,01:00,19,0\nT,1,4,5,01:04,,,0\n"
    ++ bytes "T,2,1,1,,00:53,8,0\nT,2,2,5,00:57,01:06,23,0\nT,2,3,3,01:10,,,0\n"
    ++ bytes "T,3,1,2,,00:44,21,0\nT,3,2,4,00:47,00:48,10,0\nT,3,3,1,00:54,,,0\n"
    ++ bytes "T,4,1,1,,00:53,31,0\nT,4,2,3,01:10,,,0\n"
    ++ bytes "T,5,1,5,,00:59,17,0\nT,5,2,3,01:10,,,0\n"
    ++ bytes "T,6,1,5,,01:05,17,0\nT,6,2,3,01:10,,,0\n"

-- the timetable that it is read to
unfoldable pub night : Timetable
night =
    record {
      stations = station 1 5 ∷ station 7 27 ∷ station 4 33 ∷ station 3 29 ∷ station 2 6 ∷ [];
      walks = [];
      numbers = 1 ∷ 2 ∷ 3 ∷ 4 ∷ 5 ∷ 6 ∷ [];
      trips =
          (stop 4 0 50 12 ∷ stop 1 52 55 14 ∷ stop 4 58 60 19 ∷ stop 5 64 0 0 ∷ [])
          ∷ (stop 1 0 53 8 ∷ stop 5 57 66 23 ∷ stop 3 70 0 0 ∷ [])
          ∷ (stop 2 0 44 21 ∷ stop 4 47 48 10 ∷ stop 1 54 0 0 ∷ [])
          ∷ (stop 1 0 53 31 ∷ stop 3 70 0 0 ∷ [])
          ∷ (stop 5 0 59 17 ∷ stop 3 70 0 0 ∷ [])
          ∷ (stop 5 0 65 17 ∷ stop 3 70 0 0 ∷ [])
          ∷ [];
    }

-- its words: the counts; the stations; the stops, trip by trip; where the trips begin, and the end; the numbers of the
-- trips; how many walks there are from no station, and up to each
abbrev pub night_words : List ℕ
night_words =
    (5 ∷ 6 ∷ 16 ∷ [])
    ++ (1 ∷ 5 ∷ 7 ∷ 27 ∷ 4 ∷ 33 ∷ 3 ∷ 29 ∷ 2 ∷ 6 ∷ [])
    ++ (4 ∷ 0 ∷ 50 ∷ 12 ∷ 0 ∷ 1 ∷ 52 ∷ 55 ∷ 14 ∷ 0 ∷ 4 ∷ 58 ∷ 60 ∷ 19 ∷ 0 ∷ 5 ∷ 64 ∷ 0 ∷ 0 ∷ 0 ∷ [])
    ++ (1 ∷ 0 ∷ 53 ∷ 8 ∷ 0 ∷ 5 ∷ 57 ∷ 66 ∷ 23 ∷ 0 ∷ 3 ∷ 70 ∷ 0 ∷ 0 ∷ 0 ∷ [])
    ++ (2 ∷ 0 ∷ 44 ∷ 21 ∷ 0 ∷ 4 ∷ 47 ∷ 48 ∷ 10 ∷ 0 ∷ 1 ∷ 54 ∷ 0 ∷ 0 ∷ 0 ∷ [])
    ++ (1 ∷ 0 ∷ 53 ∷ 31 ∷ 0 ∷ 3 ∷ 70 ∷ 0 ∷ 0 ∷ 0 ∷ [])
    ++ (5 ∷ 0 ∷ 59 ∷ 17 ∷ 0 ∷ 3 ∷ 70 ∷ 0 ∷ 0 ∷ 0 ∷ [])
    ++ (5 ∷ 0 ∷ 65 ∷ 17 ∷ 0 ∷ 3 ∷ 70 ∷ 0 ∷ 0 ∷ 0 ∷ [])
    ++ (0 ∷ 4 ∷ 7 ∷ 10 ∷ 12 ∷ 14 ∷ 16 ∷ [])
    ++ (1 ∷ 2 ∷ 3 ∷ 4 ∷ 5 ∷ 6 ∷ [])
    ++ (0 ∷ 0 ∷ 0 ∷ 0 ∷ 0 ∷ 0 ∷ [])

-- the words of its line tables: the counts, and where the stations' lists are told; where the lines stand; line by
-- line; where the lists stand; the lists, of which that of station 4 has line 2 twice
abbrev pub night_tables : List ℕ
night_tables =
    (5 ∷ 5 ∷ 6 ∷ 99 ∷ [])
    ++ (9 ∷ 27 ∷ 50 ∷ 68 ∷ 81 ∷ [])
    ++ (3 ∷ 1 ∷ 3 ∷ 2 ∷ 0 ∷ 0 ∷ 4 ∷ 21 ∷ 0 ∷ 1 ∷ 31 ∷ 0 ∷ 0 ∷ 44 ∷ 47 ∷ 48 ∷ 54 ∷ 0 ∷ [])
    ++ (4 ∷ 1 ∷ 1 ∷ 4 ∷ 0 ∷ 0 ∷ 1 ∷ 12 ∷ 0 ∷ 4 ∷ 26 ∷ 0 ∷ 5 ∷ 45 ∷ 0 ∷ 0 ∷ 50 ∷ 52 ∷ 55 ∷ 58 ∷ 60 ∷ 64 ∷ 0 ∷ [])
    ++ (3 ∷ 1 ∷ 2 ∷ 1 ∷ 0 ∷ 0 ∷ 5 ∷ 8 ∷ 0 ∷ 3 ∷ 31 ∷ 0 ∷ 0 ∷ 53 ∷ 57 ∷ 66 ∷ 70 ∷ 0 ∷ [])
    ++ (2 ∷ 1 ∷ 4 ∷ 1 ∷ 0 ∷ 0 ∷ 3 ∷ 31 ∷ 0 ∷ 0 ∷ 53 ∷ 70 ∷ 0 ∷ [])
    ++ (2 ∷ 2 ∷ 5 ∷ 6 ∷ 5 ∷ 0 ∷ 0 ∷ 3 ∷ 17 ∷ 0 ∷ 0 ∷ 0 ∷ 59 ∷ 65 ∷ 70 ∷ 70 ∷ 0 ∷ 0 ∷ [])
    ++ (105 ∷ 113 ∷ 115 ∷ 121 ∷ 127 ∷ 133 ∷ [])
    ++ (1 ∷ 3 ∷ 2 ∷ 2 ∷ 3 ∷ 1 ∷ 4 ∷ 1 ∷ [])
    ++ (1 ∷ 1 ∷ [])
    ++ (3 ∷ 3 ∷ 4 ∷ 2 ∷ 5 ∷ 2 ∷ [])
    ++ (1 ∷ 2 ∷ 2 ∷ 1 ∷ 2 ∷ 3 ∷ [])
    ++ (2 ∷ 4 ∷ 3 ∷ 2 ∷ 5 ∷ 1 ∷ [])

-- a row of three rides
abbrev pub three_rides : (d p trip board alight trip' board' alight' trip'' board'' alight'' : ℕ) → List ℕ
three_rides d p t x y t' x' y' t'' x'' y'' = d ∷ p ∷ 3 ∷ t ∷ x ∷ y ∷ t' ∷ x' ∷ y' ∷ t'' ∷ x'' ∷ y'' ∷ []

pub record NightCases (s : Slices) : Type 0 where
  -- ---- reading, building line tables, and the trips of each line
  pub text : read s text_night ≡ returned 0 21
  pub text_words : timetable_after s text_night ≡ night_words ++ drop 112 s.timetable
  pub tables : built s text_night ≡ returned 0 5
  pub tables_words : tables_after s text_night ≡ night_tables ++ drop 133 s.tables
  pub line_1 : trips_of s text_night 1 ≡ 3 ∷ []
  pub line_2 : trips_of s text_night 2 ≡ 1 ∷ []
  pub line_3 : trips_of s text_night 3 ≡ 2 ∷ []
  pub line_4 : trips_of s text_night 4 ≡ 4 ∷ []
  pub line_5 : trips_of s text_night 5 ≡ 5 ∷ 6 ∷ []
  -- ---- the stores: the counts; the prefix nodes; the arcs
  pub store_1 : Stores s text_night 1 ((1 ∷ 4 ∷ []) ++ (5 ∷ 5 ∷ 0 ∷ []) ++ (3 ∷ 0 ∷ 3 ∷ 1 ∷ 4 ∷ 0 ∷ 5 ∷ 0 ∷ []))
  pub store_2 : Stores s text_night 2
      ((6 ∷ 10 ∷ [])
      ++ (1 ∷ 1 ∷ 0 ∷ 4 ∷ 4 ∷ 0 ∷ 5 ∷ 5 ∷ 1 ∷ 1 ∷ 1 ∷ 2 ∷ 5 ∷ 5 ∷ 2 ∷ 5 ∷ 5 ∷ 4 ∷ [])
      ++ (1 ∷ 0 ∷ 1 ∷ 2 ∷ 3 ∷ 3 ∷ 3 ∷ 4 ∷ 3 ∷ 5 ∷ 3 ∷ 6 ∷ 4 ∷ 0 ∷ 5 ∷ 1 ∷ 5 ∷ 2 ∷ 5 ∷ 4 ∷ []))
  pub store_3 : Stores s text_night 3 (0 ∷ 0 ∷ [])
  pub store_4 : Stores s text_night 4
      ((3 ∷ 6 ∷ [])
      ++ (1 ∷ 1 ∷ 0 ∷ 5 ∷ 5 ∷ 0 ∷ 5 ∷ 5 ∷ 1 ∷ [])
      ++ (1 ∷ 0 ∷ 3 ∷ 1 ∷ 3 ∷ 2 ∷ 3 ∷ 3 ∷ 5 ∷ 0 ∷ 5 ∷ 1 ∷ []))
  pub store_5 : Stores s text_night 5 (0 ∷ 1 ∷ 3 ∷ 0 ∷ [])
  -- ---- the rule for equal cost, step by step, in queries from the stores that were made. "departs latest": the change
  -- at 5 leaves at 60 and is shown, not the change at 1, which leaves at 50 and has lower numbers. Who arrives at 5 at
  -- 64 and changes in 2 minutes has missed the cheaper trip 6 by one.
  pub departs_latest : Asks s text_night 4 3 40 (two_rides 30 48 1 3 4 2 2 3 ∷ [])
  -- "Then it has fewest rides": alike are 2,1,2 with 5,1,2 or 6,1,2, whose first ride alights at a lower stop. "Then
  -- its rides (trip": alike is 4,1,2, which alights at a lower stop too.
  pub fewest_rides : Asks s text_night 1 3 40 (one_ride 30 31 2 1 3 ∷ [])
  -- "boarding stop": alike is 3,1,2 with 1,3,4 and 2,2,3, which boards trip 1 where it calls at 4 again
  pub boarding_stop : Asks s text_night 2 3 40 (three_rides 30 98 3 1 2 1 1 2 2 1 3 ∷ [])
  -- "alighting stop": alike is 3,1,3 with 1,2,4, which boards trip 1 at a lower stop
  pub alighting_stop : Asks s text_night 2 5 40
      (three_rides 17 75 3 1 2 1 1 2 2 1 2 ∷ two_rides 24 69 3 1 2 1 3 4 ∷ [])
  -- ---- and what else is shown: the quick and the cheap
  pub to_1 : Asks s text_night 2 1 40 (two_rides 12 62 3 1 2 1 1 2 ∷ one_ride 14 31 3 1 3 ∷ [])
  pub to_5 : Asks s text_night 4 5 40 (two_rides 17 25 1 1 2 2 1 2 ∷ one_ride 24 19 1 3 4 ∷ [])
  -- a later minute, for which the cheaper has left
  pub at_54 : Asks s text_night 1 3 54 (two_rides 16 62 1 2 4 2 2 3 ∷ [])
  pub at_66 : Asks s text_night 5 3 66 (one_ride 4 23 2 2 3 ∷ [])
  -- and none
  pub at_45 : AsksNone s text_night 2 3 45
  pub from_3 : AsksNone s text_night 3 5 40
  -- ---- the direct query: of the trips of line 5 the later is shown; trip 1 is boarded where it calls at 4 again
  pub direct_latest : Rides s text_night 5 3 40 (one_ride 30 17 6 1 2 ∷ [])
  pub direct_trip : Rides s text_night 1 3 40 (one_ride 30 31 2 1 3 ∷ [])
  pub direct_again : Rides s text_night 4 5 40 (one_ride 24 19 1 3 4 ∷ [])
  pub direct_two : Rides s text_night 4 1 40 (one_ride 12 12 1 1 2 ∷ one_ride 14 10 3 2 3 ∷ [])
  pub direct_none : RidesNone s text_night 2 3 40
  pub direct_at_54 : RidesNone s text_night 1 3 54
  -- ---- sequences struck, whatever words stand behind the store: of source 2 the sequence 1, 5, 3 is left; of source 1
  -- the sequence 5, 3, where the second trip settles the tie
  pub struck : (post : List ℕ)
      → Shows s text_night (2 ∷ 1 ∷ 1 ∷ 1 ∷ 0 ∷ 5 ∷ 5 ∷ 1 ∷ 3 ∷ 2 ∷ post) 2 3 40
      (three_rides 30 98 3 1 3 1 2 4 2 2 3 ∷ [])
  pub struck_none : (post : List ℕ) → ShowsNone s text_night (2 ∷ 1 ∷ 1 ∷ 1 ∷ 0 ∷ 5 ∷ 5 ∷ 1 ∷ 3 ∷ 2 ∷ post) 2 5 40
  pub struck_trip : (post : List ℕ)
      → Shows s text_night (1 ∷ 1 ∷ 5 ∷ 5 ∷ 0 ∷ 3 ∷ 1 ∷ post) 1 3 40 (two_rides 30 31 2 1 2 5 1 2 ∷ [])
  -- and a store that names a sixth station
  pub ill_made : (post : List ℕ) → IllMade s text_night (0 ∷ 1 ∷ 6 ∷ 0 ∷ post) 1 3 40
