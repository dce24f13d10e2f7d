-- The old equivalent of M is the text that document 01 has, with its marks, and it was read to the same timetable; by
-- computation. For a reader.
use Rattle.std.specs.Prelude.{◌≡◌, refl, List, ◌++◌, ℕ}
use Rattle.std.proofs.Common.{sym, ◌∙◌}
use Rattle.text.specs.Piece.{pieces}
use Rattle.text.specs.Number.{digit_value, decimal}
use Rattle.text.specs.Time.{pair_value, is_time, minute_of, time_value}
use Rattle.timetable.specs.Worked.{M}
use Rattle.reading.specs.Reading.{Accepted}
use Rattle.accepted.specs.Marks.{fielded}
use Rattle.accepted.specs.Digits.{digits}
use Rattle.accepted.specs.Cases.{bytes, text_m, M_accepted}
use Rattle.accepted.specs.Sound.{accepted_short}
use Rattle.former.specs.Former.{former_reading, former_text}
use Rattle.former.specs.Former.{plain, former_field, former_at, former_fields, former_line, former_lines}
use Rattle.former.specs.SameTables.{same_tables}

-- "Timetable M" as document 01 has it, where "M's T lines each gain a 0"
unfoldable pub former_m : List ℕ
former_m =
    bytes "S,1,2,10\nS,2,3,10\nS,3,5,10\n"
    ++ bytes "T,1,1,1,,480,0,0\nT,1,2,2,500,501,0,0\nT,1,3,3,560,,,0\n"
    ++ bytes "T,2,1,2,,503,0,0\nT,2,2,3,520,,,0\n"
    ++ bytes "T,3,1,2,,502,0,0\nT,3,2,3,515,,,0\n"

pub M_before : former_text text_m ≡ former_m
unfolding
    former_text
    former_lines
    former_line
    former_fields
    former_at
    former_field
    plain
    pieces
    fielded
    digits
    time_value
    is_time
    minute_of
    pair_value
    decimal
    digit_value
    bytes
    text_m
    former_m
M_before = refl

pub M_read_before : former_reading former_m ≡ Accepted M 10
M_read_before =
    rw (← M_before)
    (sym (same_tables text_m (accepted_short text_m M 10 M_accepted)).outcome ∙ M_accepted)
