-- What cancelling and adding a trip reply and write. Document 02, Eleven: "Control rooms cancel and add trips during
-- the day. The timetable words and line tables after each change must equal those built afresh from the trips that now
-- run, taken in rising number."
use Rattle.std.specs.Prelude.{cond, not, List, [], ◌∷◌, ◌++◌, ℕ, eqb, get_or}
use Rattle.questions.specs.Question.{ask, first_no}
use Rattle.replies.specs.Reply.{Reply}
use Rattle.replies.specs.Replies.{reply_of, words_after}
use Rattle.words.specs.Put.{put}
use Rattle.timetable.specs.Timetable.{Timetable}
use Rattle.timetable.specs.Words.{words, timetable_of}
use Rattle.timetable.specs.Changes.{runs_as, cancelled, added}
use Rattle.reading.specs.Reading.{Outcome, Accepted, Refused, read_extra}
use Rattle.reading.specs.Reply.{Reply as LineReply}
use Rattle.reading.specs.Reply.{Done as LinesDone, Refused as LineRefused}
use Rattle.lines_tables.specs.Tables.{table_words}
use Rattle.lines_tables.specs.Building.{line_count}
use Rattle.lines_check.specs.Question10.{tables_questions}

-- ---- cancelling a trip by its number, where a timetable, line tables and working space of that many words are lent
-- "Turned away: 18, cancelling a trip that isn't running, .. after 10"
unfoldable pub cancel_number : (timetable lines : List ℕ) (work trip : ℕ) → ℕ
cancel_number timetable lines work trip =
    first_no
    (tables_questions timetable lines work ++ (ask 18 (runs_as trip (timetable_of timetable).numbers) ∷ []))

-- the timetable of the trips that now run
abbrev pub after_cancel : (timetable : List ℕ) (trip : ℕ) → Timetable
after_cancel timetable trip = cancelled (timetable_of timetable) trip

-- "Cancelling and adding return the tables' number of lines."
unfoldable pub cancel_reply : (timetable lines : List ℕ) (work trip : ℕ) → Reply
cancel_reply timetable lines work trip =
    reply_of (cancel_number timetable lines work trip) (line_count (after_cancel timetable trip))

-- the words of both slices after the call
unfoldable pub cancel_timetable : (timetable lines : List ℕ) (work trip : ℕ) → List ℕ
cancel_timetable timetable lines work trip =
    words_after (cancel_number timetable lines work trip) (words (after_cancel timetable trip)) timetable

unfoldable pub cancel_lines : (timetable lines : List ℕ) (work trip : ℕ) → List ℕ
cancel_lines timetable lines work trip =
    words_after (cancel_number timetable lines work trip) (table_words (after_cancel timetable trip)) lines

-- ---- adding a trip by its number and its lines
-- "and 19, adding one that is, both after 10"
unfoldable pub add_number : (timetable lines : List ℕ) (work trip : ℕ) → ℕ
add_number timetable lines work trip =
    first_no
    (tables_questions timetable lines work
    ++ (ask 19 (not (runs_as trip (timetable_of timetable).numbers)) ∷ []))

-- "An extra trip comes as its number and its T lines, read after 10 and 19 under 2 to 7"; the others have no line
unfoldable pub add_outcome : (timetable lines : List ℕ) (work trip : ℕ) (text : List ℕ) → Outcome
add_outcome timetable lines work trip text =
    cond
    (eqb (add_number timetable lines work trip) 0)
    (read_extra (timetable_of timetable) trip text)
    (Refused (add_number timetable lines work trip) 0)

-- the timetable of the trips that now run, where the extra trip is that of `one`
abbrev pub after_add : (timetable : List ℕ) (trip : ℕ) → (one : Timetable) → Timetable
after_add timetable trip one = added (timetable_of timetable) trip (get_or one.trips 0 [])

abbrev pub reply_to : (timetable : List ℕ) (trip : ℕ) → Outcome → LineReply
reply_to timetable trip (Accepted one count) = LinesDone (line_count (after_add timetable trip one))
reply_to timetable trip (Refused number line) = LineRefused number line

abbrev timetable_after : (timetable : List ℕ) (trip : ℕ) → Outcome → List ℕ
timetable_after timetable trip (Accepted one count) = put 0 (words (after_add timetable trip one)) timetable
timetable_after timetable trip (Refused number line) = timetable

abbrev lines_after : (timetable lines : List ℕ) (trip : ℕ) → Outcome → List ℕ
lines_after timetable lines trip (Accepted one count) = put 0 (table_words (after_add timetable trip one)) lines
lines_after timetable lines trip (Refused number line) = lines

unfoldable pub add_reply : (timetable lines : List ℕ) (work trip : ℕ) (text : List ℕ) → LineReply
add_reply timetable lines work trip text = reply_to timetable trip (add_outcome timetable lines work trip text)

unfoldable pub add_timetable : (timetable lines : List ℕ) (work trip : ℕ) (text : List ℕ) → List ℕ
add_timetable timetable lines work trip text = timetable_after timetable trip
    (add_outcome timetable lines work trip text)

unfoldable pub add_lines : (timetable lines : List ℕ) (work trip : ℕ) (text : List ℕ) → List ℕ
add_lines timetable lines work trip text = lines_after timetable lines trip (add_outcome timetable lines work trip text)
