-- What a timetable text means: a timetable and its count of lines, or the refusal's number and line.
use Rattle.std.specs.Prelude.{Bool, cond, ◌&&◌, List, [], ◌∷◌, ℕ, ◌+◌, ◌-◌, leb, eqb, length}
use Rattle.lists.specs.Lists.{range}
use Rattle.words.specs.Put.{put}
use Rattle.text.specs.Piece.{pieces}
use Rattle.text.specs.Time.{time_value}
use Rattle.text_shapes.specs.Shape.{shape_by}
use Rattle.timetable.specs.Timetable.{Trip, Timetable, stops_of}
use Rattle.timetable.specs.Words.{words}
use Rattle.reading_lines.specs.Draft.{Draft, Rules, text_rules, extra_rules, opening, blank, number_under, with_line}
use Rattle.reading.specs.Reply.{Reply}
use Rattle.reading.specs.Reply.{Done as ReplyDone, Refused as ReplyRefused}

pub data Outcome : Type 0 where
  Accepted : Timetable → (lines : ℕ) → Outcome
  Refused : (number line : ℕ) → Outcome

-- "After all: a station listed, and the last trip, if there is one, ended? 7"; of an extra trip: "no line at all 7"
abbrev pub complete : Rules → Draft → Bool
complete r d =
    cond r.extra (eqb (length d.trips) 1) (leb 1 (length d.stations)) && eqb (length d.begun) 0

-- "trips 1, 2, 3.."; an extra trip has its own number
abbrev pub numbers_under : Rules → List Trip → List ℕ
numbers_under r trips = cond r.extra (r.number ∷ []) (range 1 (length trips))

-- question 7, at lines plus one
unfoldable pub ended : Rules → Draft → (line : ℕ) → Outcome
ended r d line =
    cond (complete r d)
    (Accepted
    (record {
      stations = d.stations;
      walks = d.walks;
      numbers = numbers_under r d.trips;
      trips = d.trips;
    })
    (line - 1))
    (Refused 7 line)

-- the lines given, the first of which has this number; what stands last ends with no byte 10: "bytes after the last 10
-- are a line of no shape". Arrive and depart are read by `time`.
unfoldable pub read_under : Rules → (time : List ℕ → ℕ) → Draft → (line : ℕ) → List (List ℕ) → Outcome
read_under r time d line [] = ended r d line
read_under r time d line (s ∷ []) = cond (eqb (length s) 0) (ended r d line) (Refused 2 line)
read_under r time d line (s ∷ u ∷ l) =
    let rest = read_under r time (with_line d (shape_by time s)) (line + 1) (u ∷ l) in
    cond (eqb (number_under r d (shape_by time s)) 0) rest (Refused (number_under r d (shape_by time s)) line)

-- the lines of a text
abbrev pub read_by : (time : List ℕ → ℕ) → Draft → (line : ℕ) → List (List ℕ) → Outcome
read_by time d line lines = read_under text_rules time d line lines

-- times are written `hh:mm`
abbrev pub read_from : Draft → (line : ℕ) → List (List ℕ) → Outcome
read_from d line lines = read_by time_value d line lines

-- "at most .. 65,536 bytes"
abbrev pub text_most : ℕ
text_most = 65536

unfoldable pub read_lines : List ℕ → Outcome
read_lines text = read_from blank 1 (pieces 10 text)

-- "Reading: at most 65,536 bytes? 1. Then for each line: .."; "for 1 to 7 also the line (0 for 1, ..)"
unfoldable pub reading : List ℕ → Outcome
reading text = cond (leb (length text) text_most) (read_lines text) (Refused 1 0)

-- Document 02, Eleven: "An extra trip comes as its number and its T lines, read after 10 and 19 under 2 to 7": where
-- it is accepted, the timetable of that trip alone
unfoldable pub read_extra : Timetable → (number : ℕ) → List ℕ → Outcome
read_extra t n text =
    read_under (extra_rules n (length t.trips) (length (stops_of t.trips))) time_value (opening t.stations) 1
    (pieces 10 text)

-- ---- the public call
-- "timetable and line tables 16,384 16-bit words each"
abbrev pub slices_least : ℕ
slices_least = 16384

abbrev pub reply_to : Outcome → Reply
reply_to (Accepted t lines) = ReplyDone lines
reply_to (Refused number line) = ReplyRefused number line

-- the reply, with a slice of n words: "Are the slices long enough ..? 8", which has no line
unfoldable pub read_reply : List ℕ → ℕ → Reply
read_reply text n = cond (leb slices_least n) (reply_to (reading text)) (ReplyRefused 8 0)

-- "A refusal .. writes no word of any result slice. Words past a result keep their values"
abbrev pub written : Outcome → List ℕ → List ℕ
written (Accepted t lines) old = put 0 (words t) old
written (Refused number line) old = old

-- the words of the slice after the call
unfoldable pub read_words : List ℕ → List ℕ → List ℕ
read_words text old = cond (leb slices_least (length old)) (written (reading text) old) old

-- each case of the reply has its number, line and count: "A refusal returns its number, for 1 to 7 also the line ..,
-- count 0"; "reading returns the text's lines"
abbrev pub number_of : Reply → ℕ
number_of (ReplyDone lines) = 0
number_of (ReplyRefused number line) = number

abbrev pub line_of : Reply → ℕ
line_of (ReplyDone lines) = 0
line_of (ReplyRefused number line) = line

abbrev pub count_of : Reply → ℕ
count_of (ReplyDone lines) = lines
count_of (ReplyRefused number line) = 0

-- the three values that document 01 gives to each reply
pub record Values : Type 0 where
  pub number : ℕ
  pub line : ℕ
  pub count : ℕ

abbrev pub values_of : Reply → Values
values_of r = record { number = number_of r; line = line_of r; count = count_of r }

abbrev pub outcome_values : Outcome → Values
outcome_values (Accepted t lines) = record { number = 0; line = 0; count = lines }
outcome_values (Refused number line) = record { number = number; line = line; count = 0 }

unfoldable pub read_values : List ℕ → ℕ → Values
read_values text n =
    cond (leb slices_least n) (outcome_values (reading text)) (record { number = 8; line = 0; count = 0 })
