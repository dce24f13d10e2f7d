-- Document 02, Four: "the plain minute is dropped there. .. An accepted text in the new form must lead to the same
-- tables as its old equivalent." Here stand the old form and the old equivalent of a text, for that sentence alone. Of
-- later requests a T line has its mark, and a text its walk lines (document 02, Two and One): neither holds a time, so
-- that both are in the old form what they are now.
use Rattle.std.specs.Prelude.{cond, ◌&&◌, ◌||◌, List, [], ◌∷◌, ◌++◌, ℕ, suc, leb, eqb, length, get_or, drop}
use Rattle.text.specs.Piece.{pieces}
use Rattle.text.specs.Number.{empty_field, is_number, field_value}
use Rattle.text.specs.Time.{time_value}
use Rattle.reading.specs.Reply.{Reply}
use Rattle.reading.specs.Reply.{Refused as ReplyRefused}
use Rattle.reading_lines.specs.Draft.{blank}
use Rattle.reading.specs.Reading.{Outcome, Refused, read_by, text_most, slices_least, reply_to, written}
use Rattle.accepted.specs.Marks.{fielded}
use Rattle.accepted.specs.Digits.{digits}

-- ---- the old form
-- A time was a number: "times 0 to 2,879 (minutes from midnight, two days)". All else of a text is as it was.
unfoldable pub former_reading : List ℕ → Outcome
former_reading text =
    cond (leb (length text) text_most) (read_by field_value blank 1 (pieces 10 text)) (Refused 1 0)

-- what reading replied then, and the words that it left in the slice lent
unfoldable pub former_reply : List ℕ → ℕ → Reply
former_reply text n = cond (leb slices_least n) (reply_to (former_reading text)) (ReplyRefused 8 0)

unfoldable pub former_words : List ℕ → List ℕ → List ℕ
former_words text old = cond (leb slices_least (length old)) (written (former_reading text) old) old

-- ---- the old equivalent
-- A time becomes the digits of its minute, and 2880 where it is out of range; an empty field stays empty. A field of
-- another form has no old equivalent: a colon (byte 58) stands for it, which is of no form then and now.
unfoldable pub plain : ℕ → List ℕ
plain v = cond (eqb v empty_field) [] (cond (is_number v) (digits v) (58 ∷ []))

unfoldable pub former_field : List ℕ → List ℕ
former_field f = plain (time_value f)

-- field k behind the T: arrive is field 3, depart is field 4; the others stay
unfoldable pub former_at : ℕ → List ℕ → List ℕ
former_at k f = cond (eqb k 3 || eqb k 4) (former_field f) f

unfoldable pub former_fields : ℕ → List (List ℕ) → List (List ℕ)
former_fields k [] = []
former_fields k (f ∷ l) = former_at k f ∷ former_fields (suc k) l

-- a line that begins with T (byte 84) and a comma (byte 44); all other lines stay, those of stations and walks too
unfoldable pub former_line : List ℕ → List ℕ
former_line line =
    cond (eqb (get_or line 0 0) 84 && eqb (get_or line 1 0) 44)
    (84 ∷ 44 ∷ fielded (former_fields 0 (pieces 44 (drop 2 line))))
    line

-- line by line; bytes after the last byte 10 stay
unfoldable pub former_lines : List (List ℕ) → List ℕ
former_lines [] = []
former_lines (s ∷ []) = s
former_lines (s ∷ u ∷ l) = former_line s ++ 10 ∷ former_lines (u ∷ l)

unfoldable pub former_text : List ℕ → List ℕ
former_text text = former_lines (pieces 10 text)
