-- Document 02, One and Nine: walks. The timetables of connections/specs/Worked.antt as texts, and what the calls reply
-- and write. The theorem is `walk_cases` in WalkProofs.antt. For a reader.
use Rattle.std.specs.Prelude.{◌≡◌, List, [], ◌∷◌, ◌++◌, ℕ, drop}
use Prim.Native.String.{String}
use Rattle.accepted.specs.Cases.{bytes, text_m}
use Rattle.connections.specs.Worked.{one_ride, two_rides}
use Rattle.worked.specs.Calls.{Slices, returned, read, timetable_after, Stores, ShowsNone, IllMade, Asks}

unfoldable pub text_on_foot : List ℕ
text_on_foot =
    bytes "S,1,0,1\nS,2,9,50\nS,3,9,60\nS,4,0,1\nW,2,3,5,7\n"
    ++ bytes "T,1,1,1,,00:10,0,0\nT,1,2,2,00:20,,,0\n"
    ++ bytes "T,2,1,3,,00:25,2,0\nT,2,2,4,00:30,,,0\n"

-- its words: the counts; the stations; the stops, trip by trip; where the trips begin, and the end; the numbers of the
-- trips; how many walks there are from no station, and up to each; the walk
abbrev pub on_foot_words : List ℕ
on_foot_words =
    (4 ∷ 2 ∷ 4 ∷ [])
    ++ (0 ∷ 1 ∷ 9 ∷ 50 ∷ 9 ∷ 60 ∷ 0 ∷ 1 ∷ [])
    ++ (1 ∷ 0 ∷ 10 ∷ 0 ∷ 0 ∷ 2 ∷ 20 ∷ 0 ∷ 0 ∷ 0 ∷ [])
    ++ (3 ∷ 0 ∷ 25 ∷ 2 ∷ 0 ∷ 4 ∷ 30 ∷ 0 ∷ 0 ∷ 0 ∷ [])
    ++ (0 ∷ 2 ∷ 4 ∷ [])
    ++ (1 ∷ 2 ∷ [])
    ++ (0 ∷ 0 ∷ 1 ∷ 1 ∷ 1 ∷ [])
    ++ (2 ∷ 3 ∷ 5 ∷ 7 ∷ [])

-- the departure of trip 2 is given
unfoldable pub text_platform : (depart : String) → List ℕ
text_platform depart =
    bytes "S,1,0,1\nS,2,5,50\nS,3,0,1\nW,2,2,2,70\n"
    ++ bytes "T,1,1,1,,00:10,0,0\nT,1,2,2,00:20,,,0\nT,2,1,2,,"
    ++ bytes depart
    ++ bytes ",0,0\nT,2,2,3,01:30,,,0\n"

-- timetable M with a walk from station 2 to itself
unfoldable pub text_along_two : List ℕ
text_along_two =
    bytes "S,1,2,10\nS,2,3,10\nS,3,5,10\nW,2,2,4,15\n"
    ++ bytes "T,1,1,1,,08:00,0,0\nT,1,2,2,08:20,08:21,0,0\nT,1,3,3,09:20,,,0\n"
    ++ bytes "T,2,1,2,,08:23,0,0\nT,2,2,3,08:40,,,0\n"
    ++ bytes "T,3,1,2,,08:22,0,0\nT,3,2,3,08:35,,,0\n"

unfoldable pub text_round_at_end : List ℕ
text_round_at_end =
    bytes "S,1,0,1\nS,2,0,1\nS,3,0,1\nS,4,0,1\nW,2,3,2,3\n"
    ++ bytes "T,1,1,1,,00:10,0,0\nT,1,2,2,00:15,,,0\n"
    ++ bytes "T,2,1,3,,00:17,4,0\nT,2,2,4,00:20,00:20,0,0\nT,2,3,3,00:25,,,0\n"

unfoldable pub text_round_at_start : List ℕ
text_round_at_start =
    bytes "S,1,0,1\nS,2,0,1\nS,3,0,1\nS,4,0,1\nW,1,3,2,3\n"
    ++ bytes "T,1,1,1,,00:10,0,0\nT,1,2,2,00:15,00:15,0,0\nT,1,3,1,00:20,,,0\n"
    ++ bytes "T,2,1,3,,00:22,0,0\nT,2,2,4,00:30,,,0\n"

unfoldable pub text_same_trip : List ℕ
text_same_trip =
    bytes "S,1,0,1\nS,2,0,1\nS,3,0,1\nS,4,0,1\nW,2,3,5,7\n"
    ++ bytes "T,1,1,1,,00:10,0,0\nT,1,2,2,00:20,00:21,100,0\nT,1,3,3,00:40,00:41,1,0\nT,1,4,4,00:50,,,0\n"

pub record WalkCases (s : Slices) : Type 0 where
  -- "The walk's minutes and penalty replace the station's.": neither end's 9 minutes are needed, and neither penalty is
  -- added. The node of the store has the station alighted at, the one boarded at, and the root for its parent.
  pub on_foot_text : read s text_on_foot ≡ returned 0 9
  pub on_foot_words_lem : timetable_after s text_on_foot ≡ on_foot_words ++ drop 45 s.timetable
  pub on_foot_store : Stores s text_on_foot 1 (1 ∷ 2 ∷ 2 ∷ 3 ∷ 0 ∷ 2 ∷ 0 ∷ 4 ∷ 1 ∷ [])
  pub on_foot_lem : Asks s text_on_foot 1 4 0 (two_rides 30 9 1 1 2 2 1 2 ∷ [])
  -- "such a W line goes first: the S values do not apply to changes there": the walk of 2 minutes is in time at 22; at
  -- 25 it costs its 70 points still, though the station's change of 5 minutes would cost 50
  pub platform_22 : Asks s (text_platform "00:22") 1 3 0 (two_rides 90 70 1 1 2 2 1 2 ∷ [])
  pub platform_25 : Asks s (text_platform "00:25") 1 3 0 (two_rides 90 70 1 1 2 2 1 2 ∷ [])
  pub platform_store : Stores s (text_platform "00:25") 1 (1 ∷ 2 ∷ 2 ∷ 2 ∷ 0 ∷ 2 ∷ 0 ∷ 3 ∷ 1 ∷ [])
  -- "timetable M with `W,2,2,4,15` added": the walk is over at 504, after trips 2 and 3 have left; by request One
  -- a row of two rides was shown. docs/two-rules.md lists all that differs.
  pub along_store_1 : Stores s text_along_two 1 (0 ∷ 2 ∷ 2 ∷ 0 ∷ 3 ∷ 0 ∷ [])
  pub along_store_2 : Stores s text_along_two 2 (0 ∷ 1 ∷ 3 ∷ 0 ∷ [])
  pub along_store_3 : Stores s text_along_two 3 (0 ∷ 0 ∷ [])
  pub along_rows : Asks s text_along_two 1 3 470 (one_ride 90 0 1 1 3 ∷ [])
  -- "No walk stands before the first ride or after the last.": who walked to station 3 rides a round from it, and who
  -- walks from station 1 rode a round to it
  pub at_end : Asks s text_round_at_end 1 3 0 (two_rides 25 7 1 1 2 2 1 3 ∷ [])
  pub at_end_store : Stores s text_round_at_end 1 (1 ∷ 3 ∷ 2 ∷ 3 ∷ 0 ∷ 2 ∷ 0 ∷ 3 ∷ 1 ∷ 4 ∷ 1 ∷ [])
  pub at_start : Asks s text_round_at_start 1 4 0 (two_rides 30 3 1 1 3 2 1 2 ∷ [])
  pub at_start_store : Stores s text_round_at_start 1 (1 ∷ 2 ∷ 1 ∷ 3 ∷ 0 ∷ 2 ∷ 0 ∷ 4 ∷ 1 ∷ [])
  -- the same trip again, after a walk
  pub same_trip_lem : Asks s text_same_trip 1 4 0 (two_rides 50 8 1 1 2 1 3 4 ∷ [])
  -- A store may name stations between which there is no walk: no connection has that pattern. The station boarded at
  -- must be listed.
  pub no_such_walk : (post : List ℕ) → ShowsNone s text_m (1 ∷ 1 ∷ 2 ∷ 1 ∷ 0 ∷ 3 ∷ 1 ∷ post) 1 3 470
  pub unlisted : (post : List ℕ) → IllMade s text_m (1 ∷ 1 ∷ 2 ∷ 4 ∷ 0 ∷ 3 ∷ 1 ∷ post) 1 3 470
