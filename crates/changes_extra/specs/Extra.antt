-- What reading the lines of an extra trip leaves behind: in the arrays, then in the words of a timetable that has this
-- trip alone. No reader of the promise needs this file.
use Rattle.std.specs.Prelude.{◌≡◌, List, [], ◌∷◌, ℕ, ◌≤◌, length}
use Rattle.words.specs.Put.{put}
use Rattle.timetable.specs.Timetable.{Timetable}
use Rattle.timetable.specs.Words.{start_words, words}
use Rattle.reading.specs.Reading.{Outcome, Accepted, Refused}
use Rattle.reading_lines.specs.Progress.{Within}
use Rattle.reading.specs.Model.{body_words, progress_of}
use Rattle.reading.specs.Lines.{Lines}
use Rattle.reading.specs.Lines.{Accepted as LinesAccepted, Refused as LinesRefused}
use Rattle.changes_extra.specs.Found.{Found}
use Rattle.changes_extra.specs.Found.{Whole, Refused as FoundRefused}

-- the extra trip of number n, alone with the stations, in the arrays; no walk line is a line of it
pub record Single (n : ℕ) (one : Timetable) (body starts : List ℕ) : Type 0 where
  pub within : Within (progress_of one)
  pub old_body : List ℕ
  pub is_body : body ≡ put 0 (body_words one) old_body
  pub old_starts : List ℕ
  pub is_starts : starts ≡ put 0 (start_words 0 one.trips) old_starts
  pub small : n ≤ 9999
  pub unwalked : one.walks ≡ []
  pub numbered : one.numbers ≡ n ∷ []
  pub single : length one.trips ≡ 1

-- what reading the lines of an extra trip has to answer and to leave in the arrays, and in the slice
abbrev pub StopsAre : (n : ℕ) → Outcome → Lines → (body starts : List ℕ) → Type 0
StopsAre n (Accepted one lines) r body starts = (r ≡ LinesAccepted (progress_of one) lines) × Single n one body starts
StopsAre n (Refused number line) r body starts = r ≡ LinesRefused number line

pub record StopsRead (n : ℕ) (o : Outcome) (r : Lines) (body starts : List ℕ) : Type 0 where
  pub are : StopsAre n o r body starts

abbrev pub TripIs : Outcome → Found → (extra old : List ℕ) → Type 0
TripIs (Accepted one lines) r extra old = (r ≡ Whole) × (extra ≡ put 0 (words one) old)
TripIs (Refused number line) r extra old = r ≡ FoundRefused number line

pub record TripRead (o : Outcome) (r : Found) (extra old : List ℕ) : Type 0 where
  pub is : TripIs o r extra old
