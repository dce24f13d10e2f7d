-- Document 02, Eleven: "Control rooms cancel and add trips during the day. .. Question 9, and question 10 where line
-- tables are lent alone, admit gaps and count no bytes". For a reader: the timetables that some sequence of reading,
-- cancelling and adding leads to. `Leads` proves that these are the valid ones.
use Rattle.std.specs.Prelude.{◌≡◌, true, false, List, [], ℕ, length, get_or, take}
use Rattle.words.specs.Below.{Below}
use Rattle.timetable.specs.Timetable.{Timetable}
use Rattle.timetable.specs.Words.{words}
use Rattle.timetable.specs.Changes.{runs_as, cancelled, added}
use Rattle.reading.specs.Reading.{Accepted, reading, read_extra}

pub data Led : Timetable → Type 0 where
  -- some text, of at most 65,536 bytes, is accepted by reading
  by_reading : (text : List ℕ) (t : Timetable) (lines : ℕ) → Below 256 text → reading text ≡ Accepted t lines → Led t
  -- "18, cancelling a trip that isn't running"
  by_cancelling : (t : Timetable) (n : ℕ) → Led t → runs_as n t.numbers ≡ true → Led (cancelled t n)
  -- "19, adding one that is"; its lines are accepted, and it is the one trip of the timetable read from them
  by_adding : (t : Timetable) (n : ℕ) (text : List ℕ) (one : Timetable) (lines : ℕ) → Led t
      → runs_as n t.numbers ≡ false → Below 256 text → read_extra t n text ≡ Accepted one lines
      → Led (added t n (get_or one.trips 0 []))

-- The words w begin with those of such a timetable: "no question judges the words past a table".
pub record LedTo (w : List ℕ) : Type 0 where
  pub timetable : Timetable
  pub led : Led timetable
  pub leads : take (length (words timetable)) w ≡ words timetable
