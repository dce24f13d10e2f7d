-- When a line has a yes to each question put to it: the facts that the questions ask for, in both directions.
use Rattle.std.proofs.Common.{ap, ◌∙◌, arith}
use Rattle.std.specs.Prelude.{◌≡◌, refl, Bool, false, not, cond, ◌&&◌, ◌||◌, List, ◌∷◌, ℕ, suc, ◌+◌, ◌≤◌, ◌<◌, leb, eqb}
use Rattle.std.specs.Prelude.{length}
use Rattle.std.proofs.Math.Path.{sym}
use Rattle.std.proofs.Math.Bool.{true}
use Rattle.std.proofs.lemmas.Bool.{false≢true}
use Rattle.std.proofs.Math.Dec.{ltb, leb-zero}
use borrow.Author.Tests.{not-true, leb-true, ltb-true, eqb-true, le-leb, lt-ltb, eq-eqb, ne_eqb}
use Rattle.lists.specs.Tests.{and_left, and_right, or_right, or_other}
use Rattle.text.specs.Range.{in_range}
use Rattle.text_shapes.specs.Shape.{shape_by}
use Rattle.text_shapes.specs.declared.Line.TheVariants.{Station as StationIn, Walk as WalkIn}
use Rattle.text_shapes.specs.declared.StationLine.{StationLine}
use Rattle.text_shapes.specs.declared.WalkLine.{WalkLine}
use Rattle.text_shapes.specs.declared.StopLine.{StopLine}
use Rattle.timetable.specs.Timetable.{last_minute, stations_most, walks_most, trips_most, stops_most}
use Rattle.reading_lines.specs.Draft.{Draft, Rules, text_rules, with_line, stops_in, station_number, walk_of_line}
use Rattle.reading_lines.specs.Draft.{rises_after}
use Rattle.reading_lines.specs.Draft.{walk_fits, walk_number, stop_in_range, extra_station, extra_walk}
use Rattle.reading_lines.specs.Progress.{progress, stop_fits_at, stop_number_at, extra_stop_at, line_number_at}
use Rattle.reading_lines.specs.Progress.{same_number}
use Rattle.reading.specs.Reading.{Refused, read_under}
use Rattle.reading_lines.specs.declared.Progress.{Progress}
use Rattle.accepted.specs.Valid.{ValidWalk}

-- "In range? 3. In place: .. ? 4. Within the three counts? 5"
pub record StationPasses (d : Draft) (l : StationLine) : Type 0 where
  pub minutes : l.minutes ≤ 240
  pub least : 1 ≤ l.points
  pub points : l.points ≤ 1000
  pub walks : length d.walks ≡ 0
  pub first : length (stops_in d) ≡ 0
  pub number : l.number ≡ length d.stations + 1
  pub count : length d.stations < stations_most

-- "Lines out of place or of rising order give 4, too many 5, unlisted stations 6."
pub record WalkPasses (d : Draft) (l : WalkLine) : Type 0 where
  pub walk : ValidWalk (length d.stations) (walk_of_line l)
  pub first : length (stops_in d) ≡ 0
  pub rises : rises_after d.walks (walk_of_line l) ≡ true
  pub count : length d.walks < walks_most

-- .. and "For stops: ..? 6". So many trips and stops as the rules say run already.
pub record StopPasses (r : Rules) (p : Progress) (l : StopLine) : Type 0 where
  pub arrive : l.arrive ≤ last_minute
  pub depart : l.depart ≤ last_minute
  pub points : l.points ≤ 100
  pub mark : l.mark ≤ 2
  pub stop : l.stop ≡ p.begun + 1
  pub trips : r.trips + p.trips < trips_most
  pub stops : r.stops + p.stops < stops_most
  pub fits : stop_fits_at p l ≡ true

-- a line of an extra trip: "the number free from 1 to 9,999 (0 in a line gives 3). A line of another number gives 4"
pub record ExtraPasses (r : Rules) (p : Progress) (l : StopLine) : Type 0 where
  pub least : 1 ≤ l.trip
  pub trip : l.trip ≡ r.number
  pub alone : p.trips ≡ 0
  pub passes : StopPasses r p l

-- ---- no question has a no: this one has its yes, and so do those after it. Its number is `suc before`.
this_yes : (before : ℕ) (answer : Bool) (rest : ℕ) → cond answer rest (suc before) ≡ 0 → answer ≡ true
this_yes before true rest e = refl
this_yes before false rest e = absurd (omega arith)

later_yes : (before : ℕ) (answer : Bool) (rest : ℕ) → cond answer rest (suc before) ≡ 0 → rest ≡ 0
later_yes before true rest e = e
later_yes before false rest e = absurd (omega arith)

-- ---- a station line
module _ (d : Draft) (l : StationLine) where
  pub station_passes : StationPasses d l → line_number_at text_rules (progress d) (StationIn l) ≡ 0
  unfolding station_number in_range
  station_passes h =
      let none : station_number d l ≡ 0 =
      simp (
        leb-zero,
        le-leb l.minutes 240 h.minutes,
        le-leb 1 l.points h.least,
        le-leb l.points 1000 h.points,
        eq-eqb (length d.walks) 0 h.walks,
        eq-eqb (length (stops_in d)) 0 h.first,
        eq-eqb l.number (length d.stations + 1) h.number,
        lt-ltb (length d.stations) stations_most h.count,
      ) in
      sym (same_number text_rules d (StationIn l)) ∙ none

  pub station_passed : line_number_at text_rules (progress d) (StationIn l) ≡ 0 → StationPasses d l
  unfolding station_number in_range
  station_passed e =
      let none : station_number d l ≡ 0 = same_number text_rules d (StationIn l) ∙ e in
      search (
        this_yes 2,
        later_yes 2,
        this_yes 3,
        later_yes 3,
        this_yes 4,
        and_left,
        and_right,
        leb-true,
        eqb-true,
        ltb-true,
      )

-- ---- a walk line
module _ (d : Draft) (l : WalkLine) where
  pub walk_passes : WalkPasses d l → line_number_at text_rules (progress d) (WalkIn l) ≡ 0
  unfolding walk_number walk_fits in_range
  walk_passes h =
      let w = h.walk in
      let none : walk_number d l ≡ 0 =
      simp (
        le-leb 1 l.minutes w.minutes_least,
        le-leb l.minutes 60 w.minutes_most,
        le-leb 1 l.points w.points_least,
        le-leb l.points 1000 w.points_most,
        eq-eqb (length (stops_in d)) 0 h.first,
        h.rises,
        lt-ltb (length d.walks) walks_most h.count,
        le-leb 1 l.from w.from_least,
        le-leb l.from (length d.stations) w.from_most,
        le-leb 1 l.to w.to_least,
        le-leb l.to (length d.stations) w.to_most,
      ) in
      sym (same_number text_rules d (WalkIn l)) ∙ none

  pub walk_passed : line_number_at text_rules (progress d) (WalkIn l) ≡ 0 → WalkPasses d l
  unfolding walk_number walk_fits in_range
  walk_passed e =
      let none : walk_number d l ≡ 0 = same_number text_rules d (WalkIn l) ∙ e in
      record {
        walk =
            search (this_yes 2, later_yes 2, later_yes 3, later_yes 4, this_yes 5, and_left, and_right, leb-true)
            depth 9;
        first = search (later_yes 2, this_yes 3, and_left, eqb-true);
        rises = search (later_yes 2, this_yes 3, and_right);
        count = search (later_yes 2, later_yes 3, this_yes 4, ltb-true);
      }

-- a station or a walk is no line of an extra trip
pub station_refused : (l : StationLine) → extra_station l ≡ 0 → ⊥
unfolding extra_station
station_refused l e = let no : false ≡ true = search (later_yes 2, this_yes 3) in false≢true no

pub walk_refused : (l : WalkLine) → extra_walk l ≡ 0 → ⊥
unfolding extra_walk
walk_refused l e = let no : false ≡ true = search (later_yes 2, this_yes 3) in false≢true no

-- ---- a stop line
module _ (p : Progress) (l : StopLine) where
  pub stop_passed : stop_number_at p l ≡ 0 → StopPasses text_rules p l
  unfolding stop_number_at stop_in_range in_range
  stop_passed e =
      let room : ltb p.trips trips_most && ltb p.stops stops_most ≡ true =
      search (later_yes 2, later_yes 3, this_yes 4) in
      let trips : p.trips < trips_most = search (and_left, ltb-true) in
      let stops : p.stops < stops_most = search (and_right, ltb-true) in
      record {
        arrive = search (this_yes 2, and_left, and_right, leb-true);
        depart = search (this_yes 2, and_left, and_right, leb-true);
        points = search (this_yes 2, and_left, and_right, leb-true);
        mark = search (this_yes 2, and_right, leb-true);
        stop = search (later_yes 2, this_yes 3, and_right, eqb-true);
        trips = omega arith;
        stops = omega arith;
        fits = search (later_yes 2, later_yes 3, later_yes 4, this_yes 5);
      }

-- ---- a stop line of an extra trip
module _ (r : Rules) (p : Progress) (l : StopLine) where
  pub extra_passes : ExtraPasses r p l → extra_stop_at r p l ≡ 0
  unfolding extra_stop_at stop_in_range in_range
  extra_passes h =
      let s = h.passes in
      simp (
        leb-zero,
        le-leb 1 l.trip h.least,
        le-leb l.arrive last_minute s.arrive,
        le-leb l.depart last_minute s.depart,
        le-leb l.points 100 s.points,
        le-leb l.mark 2 s.mark,
        eq-eqb l.trip r.number h.trip,
        eq-eqb p.trips 0 h.alone,
        eq-eqb l.stop (p.begun + 1) s.stop,
        lt-ltb (r.trips + p.trips) trips_most s.trips,
        lt-ltb (r.stops + p.stops) stops_most s.stops,
        s.fits,
      )

  pub extra_passed : extra_stop_at r p l ≡ 0 → ExtraPasses r p l
  unfolding extra_stop_at stop_in_range in_range
  extra_passed e =
      search (
        this_yes 2,
        later_yes 2,
        this_yes 3,
        later_yes 3,
        this_yes 4,
        later_yes 4,
        this_yes 5,
        and_left,
        and_right,
        leb-true,
        ltb-true,
        eqb-true,
      )

-- ---- "For stops: station listed, unlike the stop before, arrival after the previous departure, departure not before
-- arrival?"
-- a stop after another of its trip
comes_after : Progress → StopLine → Bool
comes_after p l =
    not (eqb l.station p.station)
    && ltb p.depart l.arrive
    && (l.last || leb l.arrive l.depart)

pub record After (p : Progress) (l : StopLine) : Type 0 where
  pub unlike : eqb l.station p.station ≡ false
  pub later : p.depart < l.arrive
  pub waits : (l.last || leb l.arrive l.depart) ≡ true

module _ (p : Progress) (l : StopLine) where
  pub first_fits : p.begun ≡ 0 → 1 ≤ l.station → l.station ≤ p.stations → stop_fits_at p l ≡ true
  unfolding stop_fits_at
  first_fits z h g = simp (le-leb 1 l.station h, le-leb l.station p.stations g, eq-eqb p.begun 0 z)

  pub later_fits : 1 ≤ l.station → l.station ≤ p.stations → After p l → stop_fits_at p l ≡ true
  unfolding stop_fits_at comes_after
  later_fits h g a =
      let after : comes_after p l ≡ true =
      simp (a.unlike, lt-ltb p.depart l.arrive a.later, a.waits) in
      simp (le-leb 1 l.station h, le-leb l.station p.stations g)
      (or_right (eqb p.begun 0) (comes_after p l) after)

  pub fits_least : stop_fits_at p l ≡ true → 1 ≤ l.station
  unfolding stop_fits_at
  fits_least e = search (and_left, and_right, leb-true)

  pub fits_most : stop_fits_at p l ≡ true → l.station ≤ p.stations
  unfolding stop_fits_at
  fits_most e = search (and_left, and_right, leb-true)

  pub fits_after : stop_fits_at p l ≡ true → 0 < p.begun → After p l
  unfolding stop_fits_at comes_after
  fits_after e h =
      let after : comes_after p l ≡ true =
      or_other (eqb p.begun 0) (comes_after p l) (search (and_right)) (ne_eqb p.begun 0 (omega arith)) in
      record {
        unlike = not-true _ (search (and_left, and_right));
        later = search (and_left, and_right, ltb-true);
        waits = search (and_left, and_right);
      }

-- ---- reading goes on behind such a line
pub read_more : (r : Rules) (time : List ℕ → ℕ) (d : Draft) (k : ℕ) (s u : List ℕ) (l : List (List ℕ))
    → read_under r time d k (s ∷ u ∷ l)
    ≡ cond (eqb (line_number_at r (progress d) (shape_by time s)) 0)
    (read_under r time (with_line d (shape_by time s)) (k + 1) (u ∷ l))
    (Refused (line_number_at r (progress d) (shape_by time s)) k)
unfolding read_under
read_more r time d k s u l =
    ap
    (λ n. cond (eqb n 0) (read_under r time (with_line d (shape_by time s)) (k + 1) (u ∷ l)) (Refused n k))
    (same_number r d (shape_by time s))
