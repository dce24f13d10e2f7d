-- Whatever text is accepted, its timetable is valid: each line that has a yes to all questions keeps the draft sound,
-- so that its stations, walks and ended trips are valid, and the trip that has begun is valid as far as it goes.
use Rattle.std.specs.Prelude.{◌≡◌, refl, Bool, ℕ, zero, suc, ◌+◌, ◌≤◌, ◌<◌, leb, length}
use Rattle.std.proofs.Common.{subst, inl, inr, eq-zero-or-pos, arith}
use Rattle.std.proofs.Math.Bool.{true, false}
use mathlib.Core.List.{List, [], ◌∷◌, ◌++◌, append-nil}
use Rattle.std.proofs.Math.ListN.{length-append}
use borrow.Author.Tests.{leb-true, le-leb, lt-ltb, eq-eqb}
use Rattle.lists.specs.Lists.{range}
use Rattle.lists.specs.Ranges.{length_range}
use Rattle.lists.specs.Tests.{and_left, or_other}
use Rattle.text.specs.Piece.{pieces}
use Rattle.text.specs.Time.{time_value}
use Rattle.text_shapes.specs.declared.Line.{Line}
use Rattle.text_shapes.specs.declared.Line.TheVariants.{
  Station as StationIn,
  Walk as WalkIn,
  Stop as StopIn,
  Shapeless,
}
use Rattle.text_shapes.specs.declared.StationLine.{StationLine}
use Rattle.text_shapes.specs.declared.WalkLine.{WalkLine}
use Rattle.text_shapes.specs.declared.StopLine.{StopLine}
use Rattle.timetable.specs.Timetable.{stations_most, walks_most, trips_most, stops_most, number_most, last_minute, Walk}
use Rattle.timetable.specs.Timetable.{Trip, Timetable, valid_walks}
use Rattle.timetable.specs.Timetable.{stops_of, valid_station, listed, leaves, ends, follows, valid_trip}
use Rattle.timetable.specs.Timetable.{valid_stations}
use Rattle.timetable.specs.Timetable.{valid_trips, climb, valid}
use Rattle.timetable.specs.WordLaws.{stops_of_append}
use Rattle.reading_lines.specs.Draft.{
  Draft,
  Rules,
  text_rules,
  blank,
  final,
  station_of_line,
  walk_of_line,
  stop_of_line,
  with_stop,
}
use Rattle.reading_lines.specs.Draft.{with_line}
use Rattle.reading_lines.specs.Progress.{progress, line_number_at}
use Rattle.reading.specs.Reading.{text_most, Accepted, read_by, read_from, read_lines, reading}
use Rattle.accepted.specs.Lists.{snoc_length}
use Rattle.accepted.specs.Valid.{walk_valid, valid_is, trip_not_empty}
use Rattle.accepted.specs.Passes.{StopPasses, station_passed, walk_passed, stop_passed, fits_least, fits_most}
use Rattle.accepted.specs.Passes.{fits_after}
use Rattle.accepted.specs.SoFar.{valid_so_far, stations_more, walks_more, trips_more, trip_so_far, first_so_far}
use Rattle.accepted.specs.SoFar.{trip_to_end}
use Rattle.accepted.specs.Shaped.{ShapedStop, Shaped}
use Rattle.accepted.specs.Kept.{accepted_test, accepted_yes, whole_of, lines_kept}

-- So many trips and stops as the rules say run already.
pub record Sound (r : Rules) (d : Draft) : Type 0 where
  pub stations : length d.stations ≤ stations_most
  pub walks : length d.walks ≤ walks_most
  pub trips : r.trips + length d.trips ≤ trips_most
  pub stops : r.stops + length (stops_of d.trips ++ d.begun) ≤ stops_most
  pub each_station : valid_stations d.stations ≡ true
  pub each_walk : valid_walks (length d.stations) d.walks ≡ true
  pub each_trip : valid_trips (length d.stations) d.trips ≡ true
  pub begun : valid_so_far (length d.stations) d.begun ≡ true

-- ---- a station line: no walk and no trip is there, so that the stations may still change
no_walks : (n : ℕ) (l : List Walk) → length l ≡ 0 → valid_walks n l ≡ true
unfolding valid_walks
no_walks n [] e = refl
no_walks n (w ∷ l) e = absurd (omega arith)

no_trips_lem : (n m : ℕ) (l : List Trip) → length (stops_of l) ≡ 0 → valid_trips n l ≡ true → valid_trips m l ≡ true
unfolding valid_trips
no_trips_lem n m [] e v = refl
no_trips_lem n m ([] ∷ l) e v = absurd (trip_not_empty n (search (and_left)))
no_trips_lem n m ((b ∷ t) ∷ l) e v = absurd (omega arith)

none_begun : (n : ℕ) (t : Trip) → length t ≡ 0 → valid_so_far n t ≡ true
unfolding valid_so_far
none_begun n [] e = refl
none_begun n (b ∷ t) e = absurd (omega arith)

station_line_lem : (d : Draft) (l : StationLine) → line_number_at text_rules (progress d) (StationIn l) ≡ 0
    → Sound text_rules d → Sound text_rules (with_line d (StationIn l))
unfolding valid_station
station_line_lem d l e h =
    let p = station_passed d l e in
    let all = length-append (stops_of d.trips) d.begun in
    let more = snoc_length d.stations (station_of_line l) in
    let first = p.first in
    record {
      stations = omega arith;
      walks = h.walks;
      trips = h.trips;
      stops = h.stops;
      each_station = stations_more d.stations (station_of_line l) h.each_station
          (simp (le-leb _ _ p.minutes, le-leb _ _ p.least, le-leb _ _ p.points));
      each_walk = no_walks _ d.walks p.walks;
      each_trip = no_trips_lem _ _ d.trips (omega arith) h.each_trip;
      begun = none_begun _ d.begun (omega arith);
    }

-- ---- a walk line
walk_line_lem : (d : Draft) (l : WalkLine) → line_number_at text_rules (progress d) (WalkIn l) ≡ 0 → Sound text_rules d
    → Sound text_rules (with_line d (WalkIn l))
walk_line_lem d l e h =
    let p = walk_passed d l e in
    let one = walk_valid (length d.stations) (walk_of_line l) p.walk in
    record {
      stations = h.stations;
      walks = omega (arith, snoc_length d.walks (walk_of_line l), p.count);
      trips = h.trips;
      stops = h.stops;
      each_station = h.each_station;
      each_walk = walks_more _ d.walks (walk_of_line l) h.each_walk one p.rises;
      each_trip = h.each_trip;
      begun = h.begun;
    }

-- ---- a stop line
module _ (r : Rules) (d : Draft) (l : StopLine) (passes : StopPasses r (progress d) l) (shape : ShapedStop l)
    (h : Sound r d)
  where
    stop_listed : listed (length d.stations) (stop_of_line l) ≡ true
    unfolding listed
    stop_listed =
        simp (
          le-leb 1 l.station (fits_least (progress d) l passes.fits),
          le-leb l.station (length d.stations) (fits_most (progress d) l passes.fits),
        )

    stop_leaves : leaves (stop_of_line l) ≡ true
    unfolding leaves
    stop_leaves =
        simp (
          le-leb l.depart last_minute passes.depart,
          le-leb l.points 100 passes.points,
          le-leb l.mark 2 passes.mark,
        )

    stop_ends : l.last ≡ true → ends (stop_of_line l) ≡ true
    unfolding ends
    stop_ends last =
        simp (
          eq-eqb l.depart 0 (shape.depart last),
          eq-eqb l.points 0 (shape.points last),
          le-leb l.mark 2 passes.mark,
        )

    -- no trip has begun: this is a stop 1
    starts : length d.begun ≡ 0 → l.stop ≡ 1
    starts none = let p = passes.stop in omega arith

    stop_follows : 0 < length d.begun → follows (length d.stations) (final d.begun) (stop_of_line l) ≡ true
    unfolding follows
    stop_follows some =
        let after = fits_after (progress d) l passes.fits some in
        simp (
          stop_listed,
          after.unlike,
          lt-ltb (final d.begun).depart l.arrive after.later,
          le-leb l.arrive last_minute passes.arrive,
        )

    goes_on : l.last ≡ false → valid_so_far (length d.stations) (d.begun ++ (stop_of_line l ∷ [])) ≡ true
    goes_on on =
        elim (eq-zero-or-pos (length d.begun)) [
          | inl none ↦
              first_so_far _ _ d.begun none stop_listed (eq-eqb l.arrive 0 (shape.first (starts none)))
              stop_leaves
          | inr some ↦
              trip_so_far _ _ d.begun some h.begun (stop_follows some)
              (or_other l.last _ (fits_after (progress d) l passes.fits some).waits on) stop_leaves
        ]

    ends_trip : l.last ≡ true → valid_trip (length d.stations) (d.begun ++ (stop_of_line l ∷ [])) ≡ true
    ends_trip last =
        elim (eq-zero-or-pos (length d.begun)) [
          | inl none ↦ absurd (shape.inner last (starts none))
          | inr some ↦ trip_to_end _ _ d.begun some h.begun (stop_follows some) (stop_ends last)
        ]

    one_more : r.stops + (length (stops_of d.trips) + (length d.begun + 1)) ≤ stops_most
    one_more = omega (arith, length-append (stops_of d.trips) d.begun, passes.stops)

    pub with_stop_lem : (last : Bool) → l.last ≡ last → Sound r (with_stop d (stop_of_line l) last)
    unfolding valid_so_far
    with_stop_lem true last =
        record {
          stations = h.stations;
          walks = h.walks;
          trips = omega (arith, snoc_length d.trips (d.begun ++ (stop_of_line l ∷ [])), passes.trips);
          stops = simp (stops_of_append, append-nil, length-append) one_more;
          each_station = h.each_station;
          each_walk = h.each_walk;
          each_trip = trips_more _ d.trips _ h.each_trip (ends_trip last);
          begun = refl;
        }
    with_stop_lem false on =
        record {
          stations = h.stations;
          walks = h.walks;
          trips = h.trips;
          stops = simp length-append one_more;
          each_station = h.each_station;
          each_walk = h.each_walk;
          each_trip = h.each_trip;
          begun = goes_on on;
        }

-- ---- any line of a text, and all lines
sound_line : (d : Draft) (line : Line) → Shaped line → line_number_at text_rules (progress d) line ≡ 0
    → Sound text_rules d → Sound text_rules (with_line d line)
unfolding Shaped
sound_line d (StationIn l) shape e h = station_line_lem d l e h
sound_line d (WalkIn l) shape e h = walk_line_lem d l e h
sound_line d (StopIn l) shape e h =
    with_stop_lem text_rules d l (stop_passed (progress d) l e) shape h l.last refl
sound_line d Shapeless shape e h = absurd (omega arith)

sound_blank : Sound text_rules blank
unfolding valid_stations valid_walks valid_trips valid_so_far
sound_blank =
    record {
      stations = omega arith;
      walks = omega arith;
      trips = omega arith;
      stops = omega arith;
      each_station = refl;
      each_walk = refl;
      each_trip = refl;
      begun = refl;
    }

-- "trips 1, 2, 3..": the numbers of a text's trips rise
climb_range : (a n : ℕ) → a + n ≤ number_most → climb a (range (suc a) n) ≡ true
unfolding climb
climb_range a zero h = refl
climb_range a (suc n) h =
    simp (
      lt-ltb a (suc a) (omega arith),
      le-leb (suc a) number_most (omega arith),
      climb_range (suc a) n (omega arith),
    )

draft_valid : (d : Draft) → Sound text_rules d → 1 ≤ length d.stations → valid (whole_of text_rules d) ≡ true
draft_valid d h some =
    let all = length-append (stops_of d.trips) d.begun in
    valid_is (whole_of text_rules d)
    (record {
      least = some;
      stations = h.stations;
      walks = h.walks;
      trips = omega (arith, h.trips);
      stops = omega (arith, h.stops);
      numbers = length_range 1 (length d.trips);
      climbs = climb_range 0 (length d.trips) (omega (arith, h.trips));
      each_station = h.each_station;
      each_walk = h.each_walk;
      each_trip = h.each_trip;
    })

-- whatever reads the times
pub lines_valid : (time : List ℕ → ℕ) (lines : List (List ℕ)) (t : Timetable) (n : ℕ)
    → read_by time blank 1 lines ≡ Accepted t n → valid t ≡ true
lines_valid time lines t n e =
    let x = lines_kept text_rules (Sound text_rules) sound_line time blank 1 lines t n sound_blank e in
    let whole = x.complete in
    subst (λ z. valid z ≡ true) x.is (draft_valid x.draft x.holds (search (and_left, leb-true)))

pub accepted_valid : (text : List ℕ) (t : Timetable) (n : ℕ) → reading text ≡ Accepted t n → valid t ≡ true
unfolding reading read_lines
accepted_valid text t n e =
    lines_valid time_value (pieces 10 text) t n
    (accepted_yes (leb (length text) text_most) (read_from blank 1 (pieces 10 text)) 1 0 t n e)

-- "at most .. 65,536 bytes? 1"
pub accepted_short : (text : List ℕ) (t : Timetable) (n : ℕ) → reading text ≡ Accepted t n → length text ≤ text_most
unfolding reading
accepted_short text t n e =
    leb-true (length text) text_most (accepted_test (leb (length text) text_most) (read_lines text) 1 0 t n e)
