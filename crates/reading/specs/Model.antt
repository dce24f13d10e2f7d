-- How the code reads: it keeps the progress, and the words of stations and stops in one array, where trips begin in
-- another, and the words of walks in a third. No reader of the promise needs this file; proofs/ shows that it comes to
-- the same as Reading.
use Rattle.std.specs.Prelude.{◌≡◌, Bool, cond, ◌&&◌, List, [], ◌∷◌, ◌++◌, map, ℕ, ◌+◌, ◌-◌, ◌*◌, leb, eqb, get_or, set}
use Rattle.lists.specs.Lists.{range}
use Rattle.words.specs.Put.{put}
use Rattle.text.specs.Piece.{pieces}
use Rattle.text.specs.Time.{time_value}
use Rattle.text_shapes.specs.declared.Line.{Line}
use Rattle.text_shapes.specs.declared.Line.TheVariants.{
  Station as StationIn,
  Walk as WalkIn,
  Stop as StopIn,
  Shapeless,
}
use Rattle.text_shapes.specs.declared.StopLine.{StopLine}
use Rattle.timetable.specs.Timetable.{Station, Timetable, stops_of}
use Rattle.timetable.specs.Words.{station_words, stop_words, start_words, walk_words}
use Rattle.reading_lines.specs.Draft.{Rules, opening}
use Rattle.reading_lines.specs.Progress.{Within, progress, line_number_at}
use Rattle.reading.specs.Reading.{Outcome, Accepted, Refused, numbers_under, read_under}
use Rattle.reading_lines.specs.declared.Progress.{Progress}
use Rattle.reading.specs.Next.{Next}
use Rattle.reading.specs.Next.{On, Refused as NextRefused}
use Rattle.reading.specs.Lines.{Lines}
use Rattle.reading.specs.Lines.{Accepted as LinesAccepted, Refused as LinesRefused}

-- stations whose words an array begins with
unfoldable pub stations_in : List ℕ → (n : ℕ) → List Station
stations_in body n = map (λ i. record { minutes = get_or body (2 * i) 0; points = get_or body (2 * i + 1) 0 })
    (range 0 n)

-- lines that are read where so many stations stand there already
abbrev pub read_after : Rules → (body : List ℕ) (n : ℕ) (text : List ℕ) → Outcome
read_after r body n text = read_under r time_value (opening (stations_in body n)) 1 (pieces 10 text)

-- the progress after a stop that ends its trip, and after one where it goes on
abbrev pub end_trip : Progress → Progress
end_trip p =
    record {
      stations = p.stations;
      walks = p.walks;
      from = p.from;
      to = p.to;
      trips = p.trips + 1;
      stops = p.stops + 1;
      begun = 0;
      station = 0;
      depart = 0;
    }

abbrev pub go_on : Progress → StopLine → Progress
go_on p l =
    record {
      stations = p.stations;
      walks = p.walks;
      from = p.from;
      to = p.to;
      trips = p.trips;
      stops = p.stops + 1;
      begun = p.begun + 1;
      station = l.station;
      depart = l.depart;
    }

-- the progress after a line that has its yes
abbrev pub advance : Progress → Line → Progress
advance p (StationIn l) =
    record {
      stations = p.stations + 1;
      walks = p.walks;
      from = p.from;
      to = p.to;
      trips = p.trips;
      stops = p.stops;
      begun = p.begun;
      station = p.station;
      depart = p.depart;
    }
advance p (WalkIn l) =
    record {
      stations = p.stations;
      walks = p.walks + 1;
      from = l.from;
      to = l.to;
      trips = p.trips;
      stops = p.stops;
      begun = p.begun;
      station = p.station;
      depart = p.depart;
    }
advance p (StopIn l) = cond l.last (end_trip p) (go_on p l)
advance p Shapeless = p

unfoldable pub next_of : Rules → Progress → Line → Next
next_of r p line = cond (eqb (line_number_at r p line) 0) (On (advance p line)) (NextRefused (line_number_at r p line))

-- the words that a line adds to those of stations and stops
abbrev pub line_words : Line → List ℕ
line_words (StationIn l) = l.minutes ∷ l.points ∷ []
line_words (WalkIn l) = []
line_words (StopIn l) = l.station ∷ l.arrive ∷ l.depart ∷ l.points ∷ l.mark ∷ []
line_words Shapeless = []

-- the array of stations' and stops' words after a line
unfoldable pub body_after : Rules → Progress → Line → List ℕ → List ℕ
body_after r p line old =
    cond (eqb (line_number_at r p line) 0) (put (2 * p.stations + 5 * p.stops) (line_words line) old) old

-- the array of starts after an accepted line: a trip's last stop says where the next trip begins
abbrev pub starts_with : Progress → Line → List ℕ → List ℕ
starts_with p (StationIn l) old = old
starts_with p (WalkIn l) old = old
starts_with p (StopIn l) old = cond l.last (set old (p.trips + 1) (p.stops + 1)) old
starts_with p Shapeless old = old

unfoldable pub starts_after : Rules → Progress → Line → List ℕ → List ℕ
starts_after r p line old = cond (eqb (line_number_at r p line) 0) (starts_with p line old) old

-- the words that a line adds to those of walks
abbrev pub walking_words : Line → List ℕ
walking_words (StationIn l) = []
walking_words (WalkIn l) = l.from ∷ l.to ∷ l.minutes ∷ l.points ∷ []
walking_words (StopIn l) = []
walking_words Shapeless = []

-- the array of walks' words after a line
unfoldable pub walking_after : Rules → Progress → Line → List ℕ → List ℕ
walking_after r p line old =
    cond (eqb (line_number_at r p line) 0) (put (4 * p.walks) (walking_words line) old) old

-- the words of stations and stops of a timetable
abbrev pub body_words : Timetable → List ℕ
body_words t = station_words t.stations ++ stop_words (stops_of t.trips)

abbrev pub progress_of : Timetable → Progress
progress_of t = progress (record { stations = t.stations; walks = t.walks; trips = t.trips; begun = [] })

-- what question 7 wants to be there
unfoldable pub is_there : Rules → Progress → Bool
is_there r p = cond r.extra (eqb p.trips 1) (leb 1 p.stations)

-- question 7
unfoldable pub end_of : Rules → Progress → ℕ → Lines
end_of r p line = cond (is_there r p && eqb p.begun 0) (LinesAccepted p (line - 1)) (LinesRefused 7 line)

-- what reading all lines has to answer and to leave in the three arrays
abbrev pub LinesRead : Rules → Outcome → Lines → (body starts walking body₀ starts₀ walking₀ : List ℕ) → Type 0
LinesRead r (Accepted t n) a body starts walking body₀ starts₀ walking₀ =
    (a ≡ LinesAccepted (progress_of t) n)
    × Within (progress_of t)
    × (body ≡ put 0 (body_words t) body₀)
    × (starts ≡ put 0 (start_words 0 t.trips) starts₀)
    × (t.numbers ≡ numbers_under r t.trips)
    × (walking ≡ put 0 (walk_words t.walks) walking₀)
LinesRead r (Refused k l) a body starts walking body₀ starts₀ walking₀ = a ≡ LinesRefused k l
