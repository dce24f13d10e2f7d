-- What the listing program prints, for a timetable's text and for a line of its input. Document 01, "A whole listing".
use Rattle.std.specs.Prelude.{◌≡◌, refl, Bool, true, false, cond, List, [], ◌∷◌, ◌++◌, ℕ, eqb, replicate, take}
use Rattle.std.specs.Prelude.{Option, Some, None}
use Rattle.std.proofs.Common.{sym, ap, ◌∙◌, arith, ne_eqb}
use Rattle.std.proofs.lemmas.Bool.{eqb-false}
use Rattle.replies.specs.Reply.{Reply}
use Rattle.replies.specs.Reply.{Done, Refused}
use Rattle.replies.specs.Replies.{number_of, count_of, reply_of}
use Rattle.text.specs.Piece.{pieces}
use Rattle.listing_queries.specs.declared.Query.{Query}
use Rattle.listing_queries.specs.Query.{input_number, query_of}
use Rattle.listing_queries.specs.Cut.{cut}
use Rattle.listing_printing.specs.Lines.{refused_line, misshapen_line, refused_timetable, answered}
use Rattle.reading.specs.Reply.{Reply as ReadReply}
use Rattle.reading.specs.Reply.{Done as ReadDone, Refused as ReadRefused}
use Rattle.reading.specs.Reading.{read_reply}
use Rattle.lines_tables.specs.Building.{build_words}
use Rattle.lines_check.specs.Asked.{query_number}
use Rattle.promises.specs.StoreCall.{store_reply, store_after}
use Rattle.promises.specs.Query.{ask_reply, ask_words}

-- "A refused timetable prints only `X,number,line`.": what the reply of reading prints
abbrev pub read_printed : ReadReply → List ℕ
read_printed (ReadDone lines) = []
read_printed (ReadRefused number line) = refused_timetable number line

-- for a text that is read into 16,384 words
unfoldable pub text_printed : (text : List ℕ) → List ℕ
text_printed text = read_printed (read_reply text 16384)

-- The slice of line tables after a text was read to the words w: what building writes, if the text was accepted, and
-- what it held, if not.
abbrev pub read_tables : ReadReply → (w old : List ℕ) (space : ℕ) → List ℕ
read_tables (ReadDone lines) w old space = build_words w old space
read_tables (ReadRefused number line) w old space = old

unfoldable pub text_tables : (text w old : List ℕ) (space : ℕ) → List ℕ
text_tables text w old space = read_tables (read_reply text 16384) w old space

-- The number that is printed for a query: "the query's 11 or 12 is printed before that store's 15"; then the query's 14
-- or 15. It is the first that is not 0 of the number of the query's own questions, that of the store call, and that of
-- the query from the store.
unfoldable pub printed_number : (asked made answers : ℕ) → ℕ
printed_number asked made answers = cond (eqb asked 0) (cond (eqb made 0) answers made) asked

-- For a reader, this order: a query's own 11 or 12 is printed whatever the other two calls return;
pub own_first : (asked made answers : ℕ) → (asked ≡ 0 → ⊥) → printed_number asked made answers ≡ asked
unfolding printed_number
own_first asked made answers some = rw (ne_eqb asked 0 some)

-- without it, the store's 15 is printed whatever the query from the store returns;
pub store_second : (made answers : ℕ) → (made ≡ 0 → ⊥) → printed_number 0 made answers ≡ made
unfolding printed_number
store_second made answers some = rw (ne_eqb made 0 some)

-- without both, the number of the query from the store, which asks for its 14 before its 15
pub answer_last : (answers : ℕ) → printed_number 0 0 answers ≡ answers
unfolding printed_number
answer_last answers = refl

-- bytes after the last line end are a misshapen line, if there are any
abbrev pub end_printed : (bytes : List ℕ) → List ℕ
end_printed [] = []
end_printed (b ∷ bytes) = misshapen_line (input_number None)

-- The program's slices: "32,768 words for the store and 16,384 for answers", all 0 before a call, and working space of
-- 16,384 words. The timetable's words are w, its line tables v.
module _ (w v : List ℕ) where
  -- "For each query the program makes the store of its source": the number of that call, and the store
  unfoldable pub made_number : (source : ℕ) → ℕ
  made_number source = number_of (store_reply w v 16384 source 32768)

  unfoldable pub store_slice : (source : ℕ) → List ℕ
  store_slice source = store_after w v 16384 source (replicate 32768 0)

  -- the reply of the query from this store, and the answer's words
  unfoldable pub reply : (from to minute : ℕ) → Reply
  reply from to minute = ask_reply w v (store_slice from) 16384 from to minute 16384

  unfoldable pub answer_slice : (from to minute : ℕ) → List ℕ
  answer_slice from to minute = ask_words w v (store_slice from) 16384 from to minute (replicate 16384 0)

  unfoldable pub query_prints : (from to minute : ℕ) → ℕ
  query_prints from to minute =
      printed_number (query_number w v 16384 from to minute) (made_number from) (number_of (reply from to minute))

  -- "Q: from, to, minute, rows." with its rows, or "N: the query and its number."
  unfoldable pub query_printed : (from to minute : ℕ) → List ℕ
  query_printed from to minute =
      cond (eqb (query_prints from to minute) 0)
      (answered from to minute (count_of (reply from to minute)) (answer_slice from to minute))
      (refused_line from to minute (query_prints from to minute))

  -- "any other line of the input is misshapen and prints `N,2`"
  abbrev pub input_printed : Option Query → List ℕ
  input_printed (Some query) = query_printed query.from query.to query.minute
  input_printed None = misshapen_line (input_number None)

  -- what a line of the input prints, its line end left aside
  unfoldable pub line_printed : (line : List ℕ) → List ℕ
  line_printed line = input_printed (query_of line)

  -- "queries from standard input": its lines are the pieces that byte 10 ends, and all but the last piece are lines
  abbrev pub piece_printed : (piece : List ℕ) (after : List (List ℕ)) (rest : List ℕ) → List ℕ
  piece_printed piece [] rest = end_printed piece
  piece_printed piece (next ∷ after) rest = line_printed piece ++ rest

  unfoldable pub pieces_printed : List (List ℕ) → List ℕ
  pieces_printed [] = []
  pieces_printed (piece ∷ after) = piece_printed piece after (pieces_printed after)

  unfoldable pub all_printed : (input : List ℕ) → List ℕ
  all_printed input = pieces_printed (pieces 10 input)

-- ---- the ways in which a query ends
is_done : Reply → ℕ
is_done (Done count) = 1
is_done (Refused number) = 0

refused_some : (n c k : ℕ) → Refused k ≡ reply_of n c → k ≡ 0 → ⊥
unfolding is_done reply_of
refused_some n c k e z = go (eqb n 0) refl e
  where
    go : (t : Bool) → eqb n 0 ≡ t → Refused k ≡ cond t (Done c) (Refused n) → ⊥
    go true t h = omega (arith, ap is_done h)
    go false t h = eqb-false n 0 t (sym (ap number_of h) ∙ z)

-- a refusal has a number
pub reply_refused : (w v : List ℕ) (from to minute k : ℕ) → Refused k ≡ reply w v from to minute → k ≡ 0 → ⊥
unfolding reply ask_reply
reply_refused w v from to minute k e = refused_some _ _ k e

-- what the first 17 bytes of a line print is what the line prints
pub cut_printed : (w v line : List ℕ) → line_printed w v (take 17 line) ≡ line_printed w v line
unfolding line_printed
cut_printed w v line = ap (input_printed w v) (cut line)
