-- What the two calls reply and write. Document 02, Twelve: "Two calls, each returning the number of lines, translate it
-- to times by trip, then by stop, and back, and 10 judges the layout that a call takes."
use Rattle.std.specs.Prelude.{◌≡◌, Bool, ◌&&◌, List, [], ◌∷◌, ◌++◌, ℕ, leb, length, take}
use Rattle.lists.specs.Lists.{same}
use Rattle.questions.specs.Question.{Question, ask, first_no}
use Rattle.replies.specs.Reply.{Reply}
use Rattle.replies.specs.Replies.{reply_of, values_of, values_for, words_after, reply_values}
use Rattle.timetable.specs.Words.{timetable_of, is_timetable}
use Rattle.lines_tables.specs.Tables.{table_words}
use Rattle.lines_tables.specs.Building.{slices_least, line_count}
use Rattle.lines_check.specs.Question10.{are_tables}
use Rattle.lines_turned.specs.ByTrip.{words_by_trip}

-- question 10 in the other layout: the words begin with those of the timetable's tables, times by trip
unfoldable pub are_by_trip : (timetable other : List ℕ) → Bool
are_by_trip timetable other =
    same (words_by_trip (timetable_of timetable)) (take (length (words_by_trip (timetable_of timetable))) other)

-- a timetable, and tables, working space and a result slice of that many words: "Are the slices long enough ..? 8",
-- "Could the timetable words come from an accepted text? 9"
abbrev pub slices_questions : (timetable : List ℕ) (tables work room : ℕ) → List Question
slices_questions timetable tables work room =
    ask 8
    (leb slices_least (length timetable)
    && leb slices_least tables
    && leb slices_least work
    && leb slices_least room)
    ∷ ask 9 (is_timetable timetable)
    ∷ []

unfoldable pub slices_number : (timetable : List ℕ) (tables work room : ℕ) → ℕ
slices_number timetable tables work room = first_no (slices_questions timetable tables work room)

-- and question 10, which has this answer
unfoldable pub turn_number : (timetable : List ℕ) (tables work room : ℕ) (own : Bool) → ℕ
turn_number timetable tables work room own =
    first_no (slices_questions timetable tables work room ++ (ask 10 own ∷ []))

-- where the slices and the timetable have their yes, question 10 alone is left
unfoldable pub own_reply : (timetable : List ℕ) (own : Bool) → Reply
own_reply timetable own = reply_of (first_no (ask 10 own ∷ [])) (line_count (timetable_of timetable))

unfoldable pub own_words : (own : Bool) (result before : List ℕ) → List ℕ
own_words own result before = words_after (first_no (ask 10 own ∷ [])) result before

-- ---- to times by trip: a timetable, line tables, working space of that many words, and a result slice, which has so
-- much room, or held these words before
abbrev pub by_trip_number : (timetable lines : List ℕ) (work room : ℕ) → ℕ
by_trip_number timetable lines work room =
    turn_number timetable (length lines) work room (are_tables timetable lines)

unfoldable pub by_trip_reply : (timetable lines : List ℕ) (work room : ℕ) → Reply
by_trip_reply timetable lines work room =
    reply_of (by_trip_number timetable lines work room) (line_count (timetable_of timetable))

unfoldable pub by_trip_values : (timetable lines : List ℕ) (work room : ℕ) → List ℕ
by_trip_values timetable lines work room =
    values_for (by_trip_number timetable lines work room) (line_count (timetable_of timetable))

unfoldable pub by_trip_words : (timetable lines : List ℕ) (work : ℕ) (before : List ℕ) → List ℕ
by_trip_words timetable lines work before =
    words_after (by_trip_number timetable lines work (length before)) (words_by_trip (timetable_of timetable)) before

-- ---- and back from other tables, with times by trip
abbrev pub by_stop_number : (timetable other : List ℕ) (work room : ℕ) → ℕ
by_stop_number timetable other work room =
    turn_number timetable (length other) work room (are_by_trip timetable other)

unfoldable pub by_stop_reply : (timetable other : List ℕ) (work room : ℕ) → Reply
by_stop_reply timetable other work room =
    reply_of (by_stop_number timetable other work room) (line_count (timetable_of timetable))

unfoldable pub by_stop_values : (timetable other : List ℕ) (work room : ℕ) → List ℕ
by_stop_values timetable other work room =
    values_for (by_stop_number timetable other work room) (line_count (timetable_of timetable))

unfoldable pub by_stop_words : (timetable other : List ℕ) (work : ℕ) (before : List ℕ) → List ℕ
by_stop_words timetable other work before =
    words_after (by_stop_number timetable other work (length before)) (table_words (timetable_of timetable)) before

-- ---- number and count of a reply
pub by_trip_values_lem : (timetable lines : List ℕ) (work room : ℕ) (reply : Reply)
    → reply ≡ by_trip_reply timetable lines work room → values_of reply ≡ by_trip_values timetable lines work room
unfolding by_trip_reply by_trip_values
by_trip_values_lem timetable lines work room reply e =
    reply_values (by_trip_number timetable lines work room) (line_count (timetable_of timetable)) reply e

pub by_stop_values_lem : (timetable other : List ℕ) (work room : ℕ) (reply : Reply)
    → reply ≡ by_stop_reply timetable other work room → values_of reply ≡ by_stop_values timetable other work room
unfolding by_stop_reply by_stop_values
by_stop_values_lem timetable other work room reply e =
    reply_values (by_stop_number timetable other work room) (line_count (timetable_of timetable)) reply e
