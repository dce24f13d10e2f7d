-- What the direct query answers and writes. Document 01: "Is there a feasible connection, with a stored pattern (a
-- single ride, in a direct query)? 14"; "An answer is in 32-bit words, rows in rising duration: duration, penalty,
-- number of rides, then trip, boarding stop, alighting stop per ride. The row count is returned."
use Rattle.std.specs.Prelude.{◌≡◌, List, [], ◌∷◌, ◌++◌, ℕ, leb, length}
use Rattle.questions.specs.Question.{Question, ask, first_no}
use Rattle.replies.specs.Reply.{Reply}
use Rattle.replies.specs.Replies.{reply_of, values_of, values_for, words_after, reply_values}
use Rattle.timetable.specs.Words.{timetable_of}
use Rattle.connections.specs.Connections.{net, Connection}
use Rattle.lines.specs.DirectRides.{directs, direct_rows}
use Rattle.lines_check.specs.Asked.{query_questions}
use Rattle.promises.specs.Query.{row_words}

-- the direct rides, and their rows
abbrev pub rides : (timetable : List ℕ) (from to minute : ℕ) → List Connection
rides timetable from to minute = directs (net (timetable_of timetable)) from minute to

abbrev pub rows : (timetable : List ℕ) (from to minute : ℕ) → List (List ℕ)
rows timetable from to minute = direct_rows (net (timetable_of timetable)) from minute to

-- questions 14 and 15, for an answer slice of that many words; "Is the answer .. slice long enough ..? 15" is asked of
-- the result
abbrev pub last_questions : (timetable : List ℕ) (from to minute room : ℕ) → List Question
last_questions timetable from to minute room =
    ask 14 (leb 1 (length (rides timetable from to minute)))
    ∷ ask 15 (leb (length (row_words (rows timetable from to minute))) room)
    ∷ []

unfoldable pub direct_number : (timetable lines : List ℕ) (work from to minute room : ℕ) → ℕ
direct_number timetable lines work from to minute room =
    first_no (query_questions timetable lines work from to minute ++ last_questions timetable from to minute room)

unfoldable pub direct_reply : (timetable lines : List ℕ) (work from to minute room : ℕ) → Reply
direct_reply timetable lines work from to minute room =
    reply_of (direct_number timetable lines work from to minute room) (length (rows timetable from to minute))

-- its number and count
unfoldable pub direct_values : (timetable lines : List ℕ) (work from to minute room : ℕ) → List ℕ
direct_values timetable lines work from to minute room =
    values_for (direct_number timetable lines work from to minute room) (length (rows timetable from to minute))

pub direct_values_lem : (timetable lines : List ℕ) (work from to minute room : ℕ) (reply : Reply)
    → reply ≡ direct_reply timetable lines work from to minute room
    → values_of reply ≡ direct_values timetable lines work from to minute room
unfolding direct_reply direct_values
direct_values_lem timetable lines work from to minute room reply e = reply_values _ _ reply e

-- the words of the answer slice after the call, which held these before
unfoldable pub direct_words : (timetable lines : List ℕ) (work from to minute : ℕ) (before : List ℕ) → List ℕ
direct_words timetable lines work from to minute before =
    words_after
    (direct_number timetable lines work from to minute (length before))
    (row_words (rows timetable from to minute)) before
