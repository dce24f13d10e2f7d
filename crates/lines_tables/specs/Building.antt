-- What building line tables replies and writes.
use Rattle.std.specs.Prelude.{◌≡◌, ◌&&◌, List, [], ◌∷◌, ℕ, leb, length}
use Rattle.questions.specs.Question.{ask, first_no}
use Rattle.replies.specs.Reply.{Reply}
use Rattle.replies.specs.Replies.{reply_of, values_of, values_for, words_after, reply_values}
use Rattle.timetable.specs.Timetable.{Timetable}
use Rattle.timetable.specs.Words.{timetable_of, is_timetable}
use Rattle.lines.specs.Lines.{lines}
use Rattle.lines_tables.specs.Tables.{table_words}

-- "timetable and line tables 16,384 16-bit words each, working space 16,384 32-bit words"
abbrev pub slices_least : ℕ
slices_least = 16384

-- a timetable, a slice of that many words for line tables and working space: "Are the slices long enough ..? 8", "Could
-- the timetable words come from an accepted text? 9"; 0 where both have a yes
unfoldable pub build_number : (timetable : List ℕ) (room work : ℕ) → ℕ
build_number timetable room work =
    first_no
    (ask 8 (leb slices_least (length timetable) && leb slices_least room && leb slices_least work)
    ∷ ask 9 (is_timetable timetable)
    ∷ [])

-- "building the line tables their lines"
abbrev pub line_count : Timetable → ℕ
line_count timetable = length (lines timetable.trips)

unfoldable pub build_reply : (timetable : List ℕ) (room work : ℕ) → Reply
build_reply timetable room work = reply_of (build_number timetable room work) (line_count (timetable_of timetable))

-- its number and count
unfoldable pub build_values : (timetable : List ℕ) (room work : ℕ) → List ℕ
build_values timetable room work = values_for (build_number timetable room work) (line_count (timetable_of timetable))

pub build_values_lem : (timetable : List ℕ) (room work : ℕ) (reply : Reply) → reply ≡ build_reply timetable room work
    → values_of reply ≡ build_values timetable room work
unfolding build_reply build_values
build_values_lem timetable room work reply e =
    reply_values (build_number timetable room work) (line_count (timetable_of timetable)) reply e

-- the words of the slice after the call, which held these before
unfoldable pub build_words : (timetable before : List ℕ) (work : ℕ) → List ℕ
build_words timetable before work =
    words_after (build_number timetable (length before) work) (table_words (timetable_of timetable)) before
