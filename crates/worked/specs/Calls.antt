-- The calls one after the other, as a program makes them: a text is read, line tables are built, a store is made and a
-- query is answered from it, or from the line tables alone. What a host gets and what is written is said by the
-- definitions that the contracts of the calls name.
use Rattle.std.specs.Prelude.{◌≡◌, List, [], ◌∷◌, ◌++◌, ℕ, ◌+◌, ◌*◌, ◌≤◌, ◌<◌, length, drop}
use Rattle.reading.specs.Reading.{read_reply, read_words}
use Rattle.lines_tables.specs.Building.{build_reply, build_words}
use Rattle.lines_piece.specs.Piece.{piece}
use Rattle.promises.specs.Packed.{packed_reply, packed_count}
use Rattle.promises.specs.StoreCall.{store_reply, store_after}
use Rattle.promises.specs.Query.{ask_reply, ask_words}
use Rattle.promises.specs.DirectQuery.{direct_reply, direct_words}

-- The slices that are lent, with the words that they hold before: "timetable and line tables 16,384 16-bit words each,
-- working space 16,384 32-bit words". Store and answer may have any length.
pub record Slices : Type 0 where
  pub timetable : List ℕ
  pub tables : List ℕ
  pub space : ℕ
  pub store : List ℕ
  pub answer : List ℕ
  pub timetable_long : 16384 ≤ length timetable
  pub tables_long : 16384 ≤ length tables
  pub space_long : 16384 ≤ space

-- room for a store of m words and an answer of k
pub record Room (s : Slices) (m k : ℕ) : Type 0 where
  pub store_long : m ≤ length s.store
  pub answer_long : k ≤ length s.answer

-- What a host gets, a number of 64 bits: above the number of the refusal, or 0; below the count, or the line of a
-- refused text.
abbrev pub returned : (number beside : ℕ) → ℕ
returned number beside = number * 4294967296 + beside

-- What comes of a call with a result, for a slice of any length: the count is returned and the result written, "Words
-- past a result keep their values"; or, where the slice is too short, 15, which "writes no word of any result slice".
pub record Written (reply : ℕ) (after before result : List ℕ) (count : ℕ) : Type 0 where
  pub done : length result ≤ length before → reply ≡ returned 0 count
  pub words : length result ≤ length before → after ≡ result ++ drop (length result) before
  pub short : length before < length result → reply ≡ returned 15 0
  pub kept : length before < length result → after ≡ before

-- the words of rows, row by row; said here once more, so that a case states every word and takes none from a promise
abbrev pub in_turn : List (List ℕ) → List ℕ
in_turn [] = []
in_turn (r ∷ l) = r ++ in_turn l

-- what comes of a call whose first no has another number
pub record Refuses (number reply : ℕ) (after before : List ℕ) : Type 0 where
  pub number_is : reply ≡ returned number 0
  pub kept : after ≡ before

module _ (s : Slices) (text : List ℕ) where
  -- reading: its reply, and the timetable slice afterwards
  abbrev pub read : ℕ
  read = packed_reply (read_reply text (length s.timetable))

  abbrev pub timetable_after : List ℕ
  timetable_after = read_words text s.timetable

  -- building line tables from it
  abbrev pub built : ℕ
  built = packed_count (build_reply timetable_after (length s.tables) s.space)

  abbrev pub tables_after : List ℕ
  tables_after = build_words timetable_after s.tables s.space

  -- the trips of a line, from the line tables
  abbrev pub trips_of : (line : ℕ) → List ℕ
  trips_of line = piece tables_after s.space line

  -- making the store of a source
  abbrev pub made : (source : ℕ) → ℕ
  made source = packed_count (store_reply timetable_after tables_after s.space source (length s.store))

  abbrev pub store_slice : (source : ℕ) → List ℕ
  store_slice source = store_after timetable_after tables_after s.space source s.store

  -- a query from any store
  abbrev pub asked_from : (store : List ℕ) (from to minute : ℕ) → ℕ
  asked_from store from to minute =
      packed_count (ask_reply timetable_after tables_after store s.space from to minute (length s.answer))

  abbrev pub answer_from : (store : List ℕ) (from to minute : ℕ) → List ℕ
  answer_from store from to minute =
      ask_words timetable_after tables_after store s.space from to minute s.answer

  -- and from the store that was made for its source
  abbrev pub asked : (from to minute : ℕ) → ℕ
  asked from to minute = asked_from (store_slice from) from to minute

  abbrev pub answer_slice : (from to minute : ℕ) → List ℕ
  answer_slice from to minute = answer_from (store_slice from) from to minute

  -- a direct query
  abbrev pub direct_asked : (from to minute : ℕ) → ℕ
  direct_asked from to minute =
      packed_count (direct_reply timetable_after tables_after s.space from to minute (length s.answer))

  abbrev pub direct_answer : (from to minute : ℕ) → List ℕ
  direct_answer from to minute = direct_words timetable_after tables_after s.space from to minute s.answer

  -- ---- what comes of the calls, in a word for each

  -- "A store call returns its words"
  abbrev pub Stores : (source : ℕ) (ws : List ℕ) → Type 0
  Stores source ws = Written (made source) (store_slice source) s.store ws (length ws)

  -- a query from any store; "The row count is returned."
  abbrev pub Shows : (store : List ℕ) (from to minute : ℕ) (rows : List (List ℕ)) → Type 0
  Shows store from to minute rows =
      Written (asked_from store from to minute) (answer_from store from to minute) s.answer
      (in_turn rows) (length rows)

  abbrev pub ShowsNone : (store : List ℕ) (from to minute : ℕ) → Type 0
  ShowsNone store from to minute =
      Refuses 14 (asked_from store from to minute) (answer_from store from to minute) s.answer

  abbrev pub IllMade : (store : List ℕ) (from to minute : ℕ) → Type 0
  IllMade store from to minute =
      Refuses 13 (asked_from store from to minute) (answer_from store from to minute) s.answer

  -- and from the store of its source, where that was made, with number 0
  abbrev pub Asks : (from to minute : ℕ) (rows : List (List ℕ)) → Type 0
  Asks from to minute rows = made from < 4294967296 → Shows (store_slice from) from to minute rows

  abbrev pub AsksNone : (from to minute : ℕ) → Type 0
  AsksNone from to minute = made from < 4294967296 → ShowsNone (store_slice from) from to minute

  abbrev pub Rides : (from to minute : ℕ) (rows : List (List ℕ)) → Type 0
  Rides from to minute rows =
      Written (direct_asked from to minute) (direct_answer from to minute) s.answer (in_turn rows) (length rows)

  abbrev pub RidesNone : (from to minute : ℕ) → Type 0
  RidesNone from to minute = Refuses 14 (direct_asked from to minute) (direct_answer from to minute) s.answer
