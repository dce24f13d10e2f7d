-- What the query from a store answers and writes. Document 01: "Given any well-made store, a query's rows are the
-- undominated costs among the feasible connections whose pattern it holds, and ties are settled among those."; "An
-- answer is in 32-bit words, rows in rising duration [..]. The row count is returned."
use Rattle.std.specs.Prelude.{◌≡◌, List, [], ◌∷◌, ◌++◌, ℕ, leb, length}
use Rattle.lists.specs.Lists.{concat_map}
use Rattle.questions.specs.Question.{Question, ask, first_no}
use Rattle.replies.specs.Reply.{Reply}
use Rattle.replies.specs.Replies.{reply_of, values_of, values_for, words_after, reply_values}
use Rattle.timetable.specs.Words.{timetable_of}
use Rattle.connections.specs.Connections.{net, Connection}
use Rattle.stores.specs.Words.{well_made, kept_list, answer}
use Rattle.lines_check.specs.Asked.{query_questions}

-- the planner's list, of which those connections are kept whose pattern can be read from the store, and its rows
abbrev pub kept : (timetable store : List ℕ) (from to minute : ℕ) → List Connection
kept timetable store from to minute = kept_list (net (timetable_of timetable)) store from minute to

abbrev pub rows : (timetable store : List ℕ) (from to minute : ℕ) → List (List ℕ)
rows timetable store from to minute = answer (net (timetable_of timetable)) store from minute to

-- row by row
abbrev pub row_words : List (List ℕ) → List ℕ
row_words rows = concat_map (λ row. row) rows

-- "Is the store well made ..? 13", "Is there a feasible connection, with a stored pattern ..? 14", and "Is the
-- answer .. slice long enough ..? 15" for an answer slice of that many words, which is asked of the result
abbrev pub last_questions : (timetable store : List ℕ) (from to minute room : ℕ) → List Question
last_questions timetable store from to minute room =
    ask 13 (well_made (length (timetable_of timetable).stations) store)
    ∷ ask 14 (leb 1 (length (kept timetable store from to minute)))
    ∷ ask 15 (leb (length (row_words (rows timetable store from to minute))) room)
    ∷ []

unfoldable pub ask_number : (timetable lines store : List ℕ) (work from to minute room : ℕ) → ℕ
ask_number timetable lines store work from to minute room =
    first_no
    (query_questions timetable lines work from to minute ++ last_questions timetable store from to minute room)

unfoldable pub ask_reply : (timetable lines store : List ℕ) (work from to minute room : ℕ) → Reply
ask_reply timetable lines store work from to minute room =
    reply_of (ask_number timetable lines store work from to minute room) (length (rows timetable store from to minute))

-- its number and count
unfoldable pub ask_values : (timetable lines store : List ℕ) (work from to minute room : ℕ) → List ℕ
ask_values timetable lines store work from to minute room =
    values_for (ask_number timetable lines store work from to minute room)
    (length (rows timetable store from to minute))

pub ask_values_lem : (timetable lines store : List ℕ) (work from to minute room : ℕ) (reply : Reply)
    → reply ≡ ask_reply timetable lines store work from to minute room
    → values_of reply ≡ ask_values timetable lines store work from to minute room
unfolding ask_reply ask_values
ask_values_lem timetable lines store work from to minute room reply e = reply_values _ _ reply e

-- the words of the answer slice after the call, which held these before
unfoldable pub ask_words : (timetable lines store : List ℕ) (work from to minute : ℕ) (before : List ℕ) → List ℕ
ask_words timetable lines store work from to minute before =
    words_after
    (ask_number timetable lines store work from to minute (length before))
    (row_words (rows timetable store from to minute)) before
