-- What the store call answers and writes. Document 01: "One store per source, in 16-bit words."; "A store call returns
-- its words"; "Is the answer or store slice long enough, and for a store are n and m at most 16,383? 15". Document 02,
-- One: "a store has 2 + 3n + 2m words".
use Rattle.std.specs.Prelude.{◌≡◌, Bool, ◌&&◌, List, [], ◌∷◌, ◌++◌, ℕ, leb, length}
use Rattle.questions.specs.Question.{ask, first_no}
use Rattle.replies.specs.Reply.{Reply}
use Rattle.replies.specs.Replies.{reply_of, values_of, values_for, reply_values, words_after}
use Rattle.timetable.specs.Words.{timetable_of}
use Rattle.connections.specs.Connections.{net}
use Rattle.stores.specs.Stored.{sequences}
use Rattle.stores.specs.Words.{nodes, arcs, entries_most, store_words}
use Rattle.lines_check.specs.Question10.{tables_questions}
use Rattle.lines_check.specs.Asked.{listed}

-- the words of the store
abbrev pub store_of : (timetable : List ℕ) (source : ℕ) → List ℕ
store_of timetable source = store_words (net (timetable_of timetable)) source

-- "for a store are n and m at most 16,383", and is a slice of that many words long enough
abbrev pub fits : (timetable : List ℕ) (source room : ℕ) → Bool
fits timetable source room =
    leb (length (nodes (sequences timetable source))) entries_most
    && leb (length (arcs (sequences timetable source))) entries_most
    && leb (length (store_of timetable source)) room

unfoldable pub store_number : (timetable lines : List ℕ) (work source room : ℕ) → ℕ
store_number timetable lines work source room =
    first_no
    (tables_questions timetable lines work
    ++ (ask 11 (listed (timetable_of timetable) source) ∷ ask 15 (fits timetable source room) ∷ []))

unfoldable pub store_reply : (timetable lines : List ℕ) (work source room : ℕ) → Reply
store_reply timetable lines work source room =
    reply_of (store_number timetable lines work source room) (length (store_of timetable source))

-- its number and count
unfoldable pub store_values : (timetable lines : List ℕ) (work source room : ℕ) → List ℕ
store_values timetable lines work source room =
    values_for (store_number timetable lines work source room) (length (store_of timetable source))

pub store_values_lem : (timetable lines : List ℕ) (work source room : ℕ) (reply : Reply)
    → reply ≡ store_reply timetable lines work source room
    → values_of reply ≡ store_values timetable lines work source room
unfolding store_reply store_values
store_values_lem timetable lines work source room reply e = reply_values _ _ reply e

-- the words of the store slice after the call, which held these before
unfoldable pub store_after : (timetable lines : List ℕ) (work source : ℕ) (before : List ℕ) → List ℕ
store_after timetable lines work source before =
    words_after (store_number timetable lines work source (length before)) (store_of timetable source) before
