-- "An accepted text in the new form must lead to the same tables as its old equivalent." A text in the new form, of at
-- most 65,536 bytes, is read exactly as its old equivalent was in the old form: accepted or refused with the same
-- reply, number and line included, and with the same words of the timetable, from which the same line tables are built.
-- This holds of a text with walk lines too, which the old form had as they are. For a reader.
use Rattle.std.specs.Prelude.{◌≡◌, true, List, ℕ, ◌≤◌, leb, length}
use Rattle.std.proofs.Common.{sym, ap, arith, le-leb}
use Rattle.text.specs.Piece.{pieces, pieces_length}
use Rattle.text.specs.Number.{field_value}
use Rattle.timetable.specs.Timetable.{Timetable, valid}
use Rattle.reading_lines.specs.Draft.{blank}
use Rattle.reading.specs.Reading.{Accepted, read_by, read_lines, text_most, reading}
use Rattle.reading.specs.Reading.{read_reply, read_words}
use Rattle.accepted.specs.Kept.{accepted_yes}
use Rattle.accepted.specs.Sound.{lines_valid}
use Rattle.accepted.specs.Led.{Led}
use Rattle.accepted.specs.Leads.{valid_led}
use Rattle.lines_tables.specs.Building.{build_reply, build_words}
use Rattle.former.specs.Former.{former_reading, former_reply, former_words, former_text}
use Rattle.former.specs.Lines.{some_pieces, pieces_free, lines_shorter, outcome_stays}

-- the old equivalent is never longer, so that question 1 has its yes for it wherever it has one for the text
pub never_longer : (text : List ℕ) → length (former_text text) ≤ length text
unfolding former_text
never_longer text =
    omega (arith, lines_shorter (pieces 10 text) (some_pieces 10 text), pieces_length 10 text)

-- a text of at most 65,536 bytes and its old equivalent, each by its reader
pub record SameTables (text : List ℕ) : Type 0 where
  -- the same timetable and lines, or the same refusal at the same line
  pub outcome : reading text ≡ former_reading (former_text text)
  -- into a slice of n words: the same reply
  pub reply : (n : ℕ) → read_reply text n ≡ former_reply (former_text text) n
  -- the same words of the timetable, whatever stood in the slice
  pub words : (old : List ℕ) → read_words text old ≡ former_words (former_text text) old
  -- from them the same line tables, into whatever slice and with whatever working space
  pub built : (old : List ℕ) (m n : ℕ)
      → build_reply (read_words text old) m n ≡ build_reply (former_words (former_text text) old) m n
  pub tables : (old tables : List ℕ) (n : ℕ)
      → build_words (read_words text old) tables n ≡ build_words (former_words (former_text text) old) tables n

outcome_same : (text : List ℕ) → length text ≤ text_most → reading text ≡ former_reading (former_text text)
unfolding reading read_lines former_reading former_text
outcome_same text short =
    let shorter : length (former_text text) ≤ text_most = omega (arith, never_longer text) in
    rw (le-leb (length text) text_most short, le-leb (length (former_text text)) text_most shorter)
    (sym (outcome_stays blank 1 (pieces 10 text) (some_pieces 10 text) (pieces_free 10 text)))

pub same_tables : (text : List ℕ) → length text ≤ text_most → SameTables text
unfolding read_reply former_reply read_words former_words
same_tables text short =
    let same = outcome_same text short in
    let words_same : (old : List ℕ) → read_words text old ≡ former_words (former_text text) old = (λ old. rw same) in
    record {
      outcome = same;
      reply = λ n. rw same;
      words = words_same;
      built = λ old m n. ap (λ w. build_reply w m n) (words_same old);
      tables = λ old tables n. ap (λ w. build_words w tables n) (words_same old);
    }

-- ---- nothing is lost: what the old form could lead to, the new form and changes after it can
pub former_valid : (text : List ℕ) (t : Timetable) (n : ℕ) → former_reading text ≡ Accepted t n → valid t ≡ true
unfolding former_reading
former_valid text t n e =
    lines_valid field_value (pieces 10 text) t n
    (accepted_yes (leb (length text) text_most) (read_by field_value blank 1 (pieces 10 text)) 1 0 t n e)

pub led_anew : (text : List ℕ) (t : Timetable) (n : ℕ) → former_reading text ≡ Accepted t n → Led t
led_anew text t n e = valid_led t (former_valid text t n e)
