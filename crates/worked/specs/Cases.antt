-- Document 01: "Cases a to k stand together under one theorem about the definitions." Here they are as replies and
-- words of the calls: from the bytes of a text to the words of an answer, in slices of any length that suffices, with
-- any words in them before. The theorem is `cases` in CaseProofs.antt. demands/specs/Cases.antt has the same cases as
-- lists, rows and stores. Night.antt has a timetable whose values are unlike each other, and Walks.antt timetables with
-- walks. All are for a reader.
use Rattle.std.specs.Prelude.{◌≡◌, true, List, [], ◌∷◌, ◌++◌, ℕ, drop}
use Prim.Native.String.{String}
use Rattle.timetable.specs.Words.{words}
use Rattle.timetable.specs.Worked.{M}
use Rattle.accepted.specs.Cases.{bytes, text_m}
use Rattle.connections.specs.Worked.{one_ride, two_rides}
use Rattle.stores.specs.Words.{well_made}
use Rattle.lines_tables.specs.Tables.{table_words}
use Rattle.worked.specs.Calls.{
  Slices,
  returned,
  read,
  timetable_after,
  built,
  tables_after,
  trips_of,
  made,
  store_slice,
  asked_from,
  answer_from,
  asked,
  answer_slice,
  direct_asked,
  direct_answer,
}

-- the text of M, but for the change minutes at station 2 and the arrival of trip 2
unfoldable pub text_with : (change arrival : String) → List ℕ
text_with change arrival =
    bytes "S,1,2,10\nS,2,"
    ++ bytes change
    ++ bytes ",10\nS,3,5,10\n"
    ++ bytes "T,1,1,1,,08:00,0,0\nT,1,2,2,08:20,08:21,0,0\nT,1,3,3,09:20,,,0\n"
    ++ bytes "T,2,1,2,,08:23,0,0\nT,2,2,3,"
    ++ bytes arrival
    ++ bytes ",,,0\nT,3,1,2,,08:22,0,0\nT,3,2,3,08:35,,,0\n"

pub record Cases (s : Slices) : Type 0 where
  -- "Timetable M": 10 lines. "Words past a result keep their values", here and below.
  pub m : read s text_m ≡ returned 0 10
  pub m_words : timetable_after s text_m ≡ words M ++ drop 55 s.timetable
  pub m_with : text_with "3" "08:40" ≡ text_m
  -- "(a) The two queries above.": `Q,1,3,470,2` with its rows, and `N,1,3,481,14`, each from the store of 1
  pub a : asked s text_m 1 3 470 ≡ returned 0 2
  pub a_words : answer_slice s text_m 1 3 470
      ≡ two_rides 50 10 1 1 2 2 1 2 ++ one_ride 90 0 1 1 3 ++ drop 15 s.answer
  pub a_none : asked s text_m 1 3 481 ≡ returned 14 0
  pub a_none_words : answer_slice s text_m 1 3 481 ≡ s.answer
  -- "(b) Store of 1", where document 02, One, has "case b reads 1,3,2,2,0,2,0,3,0,3,1"; "A store call returns its
  -- words", as many as there are
  pub b : made s text_m 1 ≡ returned 0 11
  pub b_words : store_slice s text_m 1
      ≡ (1 ∷ 3 ∷ 2 ∷ 2 ∷ 0 ∷ 2 ∷ 0 ∷ 3 ∷ 0 ∷ 3 ∷ 1 ∷ []) ++ drop 11 s.store
  -- "(c) Of 2: 0,1,3,0."
  pub c : made s text_m 2 ≡ returned 0 4
  pub c_words : store_slice s text_m 2 ≡ (0 ∷ 1 ∷ 3 ∷ 0 ∷ []) ++ drop 4 s.store
  -- "(d) Of 3: 0,0."
  pub d : made s text_m 3 ≡ returned 0 2
  pub d_words : store_slice s text_m 3 ≡ (0 ∷ 0 ∷ []) ++ drop 2 s.store
  -- "(e) Lines of M: trip 1; then trips 3, 2."
  pub e : built s text_m ≡ returned 0 2
  pub e_words : tables_after s text_m ≡ table_words M ++ drop 56 s.tables
  pub e_first : trips_of s text_m 1 ≡ 1 ∷ []
  pub e_second : trips_of s text_m 2 ≡ 3 ∷ 2 ∷ []
  -- "(f) With trip 2 arriving at 514: three lines."
  pub f : built s (text_with "3" "08:34") ≡ returned 0 3
  -- "(g) From 2 to 3 at 501: one row, 14,0.", from the store of 2
  pub g : asked s text_m 2 3 501 ≡ returned 0 1
  pub g_words : answer_slice s text_m 2 3 501 ≡ one_ride 14 0 3 1 2 ++ drop 6 s.answer
  -- "(h) At 503: 17,0."
  pub h : asked s text_m 2 3 503 ≡ returned 0 1
  pub h_words : answer_slice s text_m 2 3 503 ≡ one_ride 17 0 2 1 2 ++ drop 6 s.answer
  -- The direct query replies the same to (g) and (h), since each row is of one ride, and to the second of (a).
  pub g_direct : direct_asked s text_m 2 3 501 ≡ returned 0 1
  pub g_direct_words : direct_answer s text_m 2 3 501 ≡ one_ride 14 0 3 1 2 ++ drop 6 s.answer
  pub h_direct : direct_asked s text_m 2 3 503 ≡ returned 0 1
  pub h_direct_words : direct_answer s text_m 2 3 503 ≡ one_ride 17 0 2 1 2 ++ drop 6 s.answer
  pub a_direct_none : direct_asked s text_m 1 3 481 ≡ returned 14 0
  pub a_direct_none_words : direct_answer s text_m 1 3 481 ≡ s.answer
  -- "(i) Station 2 with 4 change minutes: store of 1 is 0,2,2,0,3,0."
  pub i : made s (text_with "4" "08:40") 1 ≡ returned 0 6
  pub i_words : store_slice s (text_with "4" "08:40") 1 ≡ (0 ∷ 2 ∷ 2 ∷ 0 ∷ 3 ∷ 0 ∷ []) ++ drop 6 s.store
  -- "(j) The store 0,1,3,0 given for source 1: query at 470 shows only 90,0.", whatever words stand behind it; it is
  -- well made for the three stations
  pub j_well_made : (post : List ℕ) → well_made 3 (0 ∷ 1 ∷ 3 ∷ 0 ∷ post) ≡ true
  pub j : (post : List ℕ) → asked_from s text_m (0 ∷ 1 ∷ 3 ∷ 0 ∷ post) 1 3 470 ≡ returned 0 1
  pub j_words : (post : List ℕ)
      → answer_from s text_m (0 ∷ 1 ∷ 3 ∷ 0 ∷ post) 1 3 470 ≡ one_ride 90 0 1 1 3 ++ drop 6 s.answer
  -- "(k) Empty text: 7, line 1."; "A refusal [..] writes no word of any result slice."
  pub k : read s [] ≡ returned 7 1
  pub k_words : timetable_after s [] ≡ s.timetable
