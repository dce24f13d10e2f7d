-- A draft and what the code keeps of it grow together, line by line.
use mathlib.Core.Path.{◌≡◌, refl, sym, ap, ◌∙◌}
use mathlib.Core.Bool.{Bool, true, false, cond}
use mathlib.Core.List.{List, [], ◌∷◌, ◌++◌, append_assoc, append-nil}
use Prim.Native.Nat.{ℕ, ◌+◌, ◌*◌, ◌≤◌, ◌<◌}
use native.Mathlib.Omega.{arith}
use lib.ListN.{length, set, length-append}
use Rattle.words.specs.Put.{put, put_next}
use Rattle.lists.specs.Places.{no_length}
use Rattle.text_shapes.specs.declared.Line.{Line}
use Rattle.text_shapes.specs.declared.Line.TheVariants.{
  Station as StationIn,
  Walk as WalkIn,
  Stop as StopIn,
  Shapeless,
}
use Rattle.text_shapes.specs.declared.StopLine.{StopLine}
use Rattle.timetable.specs.Timetable.{Walk, Stop, Trip, stops_of}
use Rattle.timetable.specs.Words.{station_words, stop_words, start_words, walk_words}
use Rattle.timetable.specs.WordLaws.{
  length_station_words,
  length_stop_words,
  length_start_words,
  station_words_append,
  stop_words_append,
  stops_of_append,
  start_words_append,
  walk_words_append,
}
use Rattle.reading_lines.specs.Draft.{Draft, Rules, final, station_of_line, walk_of_line, stop_of_line}
use Rattle.reading_lines.specs.Draft.{with_stop, with_line, stops_in}
use Rattle.reading_lines.specs.Progress.{Within, last_walk, progress, line_number_at}
use Rattle.reading.specs.Model.{end_trip, go_on, advance, line_words, starts_with, walking_words}
use Rattle.reading_lines.specs.declared.Progress.{Progress}
use Rattle.reading.proofs.YesLaws.{station_yes, walk_yes, StopYes, stop_yes}

-- the words of a draft's stations and stops
abbrev pub body_of : Draft → List ℕ
body_of d = station_words d.stations ++ stop_words (stops_in d)

pub length_body_of : (d : Draft) → length (body_of d) ≡ 2 * length d.stations + 5 * length (stops_in d)
length_body_of d =
    simp (length-append, length_station_words, length_stop_words)

pub final_append : (l : Trip) (s : Stop) → final (l ++ (s ∷ [])) ≡ s
final_append [] s = refl
final_append (u ∷ []) s = refl
final_append (u ∷ v ∷ l) s = final_append (v ∷ l) s

last_append : (l : List Walk) (w : Walk) → last_walk (l ++ (w ∷ [])) ≡ w
last_append [] w = refl
last_append (v ∷ []) w = refl
last_append (v ∷ u ∷ l) w = last_append (u ∷ l) w

-- all stops, where a trip ends with stop s
stops_ended : (d : Draft) (s : Stop) → stops_of (d.trips ++ ((d.begun ++ (s ∷ [])) ∷ [])) ≡ stops_in d ++ (s ∷ [])
stops_ended d s =
    stops_of_append d.trips ((d.begun ++ (s ∷ [])) ∷ [])
    ∙ simp (append-nil, append_assoc)

-- ---- the progress
stop_progress : (d : Draft) (l : StopLine) (t : Bool) → l.last ≡ t
    → progress (with_stop d (stop_of_line l) t) ≡ advance (progress d) (StopIn l)
stop_progress d l true e = rw (e, stops_ended d (stop_of_line l)) (simp (append-nil, length-append))
stop_progress d l false e =
    rw (e, final_append d.begun (stop_of_line l), ← append_assoc (stops_of d.trips) d.begun) (simp length-append)

pub progress_grows : (d : Draft) (line : Line) → progress (with_line d line) ≡ advance (progress d) line
progress_grows d (StationIn l) = simp length-append
progress_grows d (WalkIn l) = rw (last_append d.walks (walk_of_line l)) (simp length-append)
progress_grows d (StopIn l) = stop_progress d l l.last refl
progress_grows d Shapeless = refl

-- ---- the words of stations and stops
stop_body : (d : Draft) (s : Stop) (t : Bool)
    → body_of (with_stop d s t) ≡ body_of d ++ (s.station ∷ s.arrive ∷ s.depart ∷ s.points ∷ s.mark ∷ [])
unfolding stop_words
stop_body d s true =
    rw (stops_ended d s, append-nil, stop_words_append (stops_in d) (s ∷ []), append_assoc)
stop_body d s false =
    rw (← append_assoc (stops_of d.trips) d.begun, stop_words_append (stops_in d) (s ∷ []), append_assoc)

pub body_grows : (r : Rules) (d : Draft) (line : Line) → line_number_at r (progress d) line ≡ 0
    → body_of (with_line d line) ≡ body_of d ++ line_words line
unfolding station_words stop_words
body_grows r d (StationIn l) e =
    let all = station_yes r (progress d) l 0 (sym e) refl in
    let none : stops_in d ≡ [] = no_length (stops_in d) all.before_stops in
    rw (
      none,
      append-nil (station_words (d.stations ++ (station_of_line l ∷ []))),
      append-nil (station_words d.stations),
      station_words_append d.stations (station_of_line l ∷ []),
    )
body_grows r d (WalkIn l) e = sym (append-nil (body_of d))
body_grows r d (StopIn l) e = stop_body d (stop_of_line l) l.last
body_grows r d Shapeless e = absurd (omega arith)

-- ---- the words of walks
walks_kept : (d : Draft) (s : Stop) (t : Bool) → (with_stop d s t).walks ≡ d.walks
walks_kept d s true = refl
walks_kept d s false = refl

pub walking_grows : (d : Draft) (line : Line)
    → walk_words (with_line d line).walks ≡ walk_words d.walks ++ walking_words line
unfolding walk_words
walking_grows d (StationIn l) = sym (append-nil (walk_words d.walks))
walking_grows d (WalkIn l) = walk_words_append d.walks (walk_of_line l ∷ [])
walking_grows d (StopIn l) =
    ap walk_words (walks_kept d (stop_of_line l) l.last) ∙ sym (append-nil (walk_words d.walks))
walking_grows d Shapeless = sym (append-nil (walk_words d.walks))

-- ---- where trips begin
module _ (d : Draft) (starts old : List ℕ) (is : starts ≡ put 0 (start_words 0 d.trips) old) where
  stop_starts : (l : StopLine) (t : Bool) → length d.trips + 1 < length old
      → cond t (set starts (length d.trips + 1) (length (stops_in d) + 1)) starts
      ≡ put 0 (start_words 0 (with_stop d (stop_of_line l) t).trips) old
  stop_starts l true room =
      let count : 0 + length (stops_of d.trips ++ (d.begun ++ (stop_of_line l ∷ []))) ≡ length (stops_in d) + 1 =
      simp length-append (omega arith) in
      rw (is, start_words_append 0 d.trips (d.begun ++ (stop_of_line l ∷ [])), count)
      (put_next (length d.trips + 1) (start_words 0 d.trips) old (length (stops_in d) + 1)
      (length_start_words 0 d.trips) room)
  stop_starts l false room = is

  pub starts_grow : (r : Rules) (line : Line) → line_number_at r (progress d) line ≡ 0 → length old ≡ 257
      → starts_with (progress d) line starts ≡ put 0 (start_words 0 (with_line d line).trips) old
  starts_grow r (StationIn l) e h = is
  starts_grow r (WalkIn l) e h = is
  starts_grow r (StopIn l) e h =
      let all = stop_yes r (progress d) l 0 (sym e) refl in
      stop_starts l l.last (omega arith)
  starts_grow r Shapeless e h = is

-- ---- the limits
pub within_grows : (r : Rules) (p : Progress) (line : Line) → Within p → line_number_at r p line ≡ 0
    → Within (advance p line)
within_grows r p (StationIn l) w e =
    let all = station_yes r p l 0 (sym e) refl in
    record { stations = omega arith; walks = w.walks; trips = w.trips; stops = w.stops; begun = w.begun }
within_grows r p (WalkIn l) w e =
    let all = walk_yes r p l 0 (sym e) refl in
    record { stations = w.stations; walks = omega arith; trips = w.trips; stops = w.stops; begun = w.begun }
within_grows r p (StopIn l) w e = by_last l.last (stop_yes r p l 0 (sym e) refl)
  where
    by_last : (t : Bool) → StopYes p l → Within (cond t (end_trip p) (go_on p l))
    by_last true all =
        record {
          stations = w.stations;
          walks = w.walks;
          trips = omega arith;
          stops = omega arith;
          begun = omega arith;
        }
    by_last false all =
        record {
          stations = w.stations;
          walks = w.walks;
          trips = w.trips;
          stops = omega arith;
          begun = omega (arith, w.begun);
        }
within_grows r p Shapeless w e = w

-- ---- the lines so far, each of which was a station, a walk or a stop
abbrev pub lines_in : Progress → ℕ
lines_in p = p.stations + p.walks + p.stops

pub lines_grow : (r : Rules) (p : Progress) (line : Line) (k : ℕ) → line_number_at r p line ≡ 0 → k ≤ lines_in p + 1
    → k + 1 ≤ lines_in (advance p line) + 1
lines_grow r p (StationIn l) k e h = omega arith
lines_grow r p (WalkIn l) k e h = omega arith
lines_grow r p (StopIn l) k e h = by_last l.last
  where
    by_last : (t : Bool) → k + 1 ≤ lines_in (cond t (end_trip p) (go_on p l)) + 1
    by_last true = omega arith
    by_last false = omega arith
lines_grow r p Shapeless k e h = absurd (omega arith)
