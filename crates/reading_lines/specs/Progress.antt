-- What the code knows of a draft: counts, the stations of the walk before, and the station and departure of the stop
-- before. The questions of Draft can be answered from that alone, as `same_number` shows; no reader of the promise
-- needs this file.
use Rattle.std.specs.Prelude.{◌≡◌, refl, Bool, true, false, cond, not, ◌&&◌, ◌||◌, List, [], ◌∷◌, ℕ, suc, ◌+◌, ◌≤◌, leb}
use Rattle.std.specs.Prelude.{ltb, eqb, length}
use Rattle.std.proofs.Common.{ap, ◌∙◌}
use Rattle.std.proofs.Math.Dec.{eqb-suc-zero}
use Rattle.questions.specs.Question.{ask, first_no}
use Rattle.text_shapes.specs.declared.Line.{Line}
use Rattle.text_shapes.specs.declared.Line.TheVariants.{
  Station as StationIn,
  Walk as WalkIn,
  Stop as StopIn,
  Shapeless,
}
use Rattle.text_shapes.specs.declared.StationLine.{StationLine}
use Rattle.text_shapes.specs.declared.WalkLine.{WalkLine}
use Rattle.text_shapes.specs.declared.StopLine.{StopLine}
use Rattle.timetable.specs.Timetable.{Walk, Trip, walk_before, stations_most, walks_most, trips_most, stops_most}
use Rattle.reading_lines.specs.Draft.{
  Draft,
  final,
  stops_in,
  station_in_range,
  station_number,
  walk_in_range,
  walk_of_line,
  rises_after,
  walk_fits,
  walk_number,
  stop_in_range,
  comes_after,
  goes_on,
  stop_fits,
  stop_number,
  line_number,
  Rules,
  text_rules,
  extra_station,
  extra_walk,
  extra_in_range,
  extra_stop,
  number_under,
}
use Rattle.reading_lines.specs.declared.Progress.{Progress}

-- the last of some walks; 0 everywhere where there is none
abbrev pub last_walk : List Walk → Walk
last_walk [] = record { from = 0; to = 0; minutes = 0; points = 0 }
last_walk (w ∷ []) = w
last_walk (w ∷ v ∷ l) = last_walk (v ∷ l)

abbrev pub progress : Draft → Progress
progress d =
    record {
      stations = length d.stations;
      walks = length d.walks;
      from = (last_walk d.walks).from;
      to = (last_walk d.walks).to;
      trips = length d.trips;
      stops = length (stops_in d);
      begun = length d.begun;
      station = (final d.begun).station;
      depart = (final d.begun).depart;
    }

-- within the limits, so that no sum wraps and every index is in range
pub record Within (p : Progress) : Type 0 where
  pub stations : p.stations ≤ 64
  pub walks : p.walks ≤ 256
  pub trips : p.trips ≤ 256
  pub stops : p.stops ≤ 2048
  pub begun : p.begun ≤ p.stops

-- an extra trip comes to a timetable within the limits
pub record Running (r : Rules) : Type 0 where
  pub trips : r.trips ≤ 256
  pub stops : r.stops ≤ 2048

-- ---- a line of a text
abbrev pub place_of_station : Progress → StationLine → Bool
place_of_station p l = eqb p.walks 0 && eqb p.stops 0 && eqb l.number (p.stations + 1)

abbrev pub room_for_station : Progress → Bool
room_for_station p = ltb p.stations stations_most

unfoldable pub station_number_at : Progress → StationLine → ℕ
station_number_at p l =
    first_no (ask 3 (station_in_range l) ∷ ask 4 (place_of_station p l) ∷ ask 5 (room_for_station p) ∷ [])

-- the walk comes after the one before
unfoldable pub rises_at : Progress → WalkLine → Bool
rises_at p l =
    eqb p.walks 0 || (ltb p.from l.from || (eqb p.from l.from && ltb p.to l.to))

abbrev pub place_of_walk : Progress → WalkLine → Bool
place_of_walk p l = eqb p.stops 0 && rises_at p l

abbrev pub room_for_walk : Progress → Bool
room_for_walk p = ltb p.walks walks_most

unfoldable pub walk_fits_at : Progress → WalkLine → Bool
walk_fits_at p l =
    leb 1 l.from && leb l.from p.stations && leb 1 l.to && leb l.to p.stations

unfoldable pub walk_number_at : Progress → WalkLine → ℕ
walk_number_at p l =
    first_no
    (ask 3 (walk_in_range l) ∷ ask 4 (place_of_walk p l) ∷ ask 5 (room_for_walk p) ∷ ask 6 (walk_fits_at p l) ∷ [])

abbrev pub place_of_stop : Progress → StopLine → Bool
place_of_stop p l = eqb l.trip (p.trips + 1) && eqb l.stop (p.begun + 1)

abbrev pub room_for_stop : Progress → Bool
room_for_stop p = ltb p.trips trips_most && ltb p.stops stops_most

unfoldable pub stop_fits_at : Progress → StopLine → Bool
stop_fits_at p l =
    leb 1 l.station
    && leb l.station p.stations
    && (eqb p.begun 0
    || not (eqb l.station p.station)
    && ltb p.depart l.arrive
    && (l.last || leb l.arrive l.depart))

unfoldable pub stop_number_at : Progress → StopLine → ℕ
stop_number_at p l =
    first_no
    (ask 3 (stop_in_range l) ∷ ask 4 (place_of_stop p l) ∷ ask 5 (room_for_stop p) ∷ ask 6 (stop_fits_at p l) ∷ [])

-- ---- an extra trip
abbrev pub place_of_extra : Rules → Progress → StopLine → Bool
place_of_extra r p l = eqb l.trip r.number && eqb p.trips 0 && eqb l.stop (p.begun + 1)

abbrev pub room_for_extra : Rules → Progress → Bool
room_for_extra r p = ltb (r.trips + p.trips) trips_most && ltb (r.stops + p.stops) stops_most

unfoldable pub extra_stop_at : Rules → Progress → StopLine → ℕ
extra_stop_at r p l =
    first_no
    (ask 3 (extra_in_range l)
    ∷ ask 4 (place_of_extra r p l)
    ∷ ask 5 (room_for_extra r p)
    ∷ ask 6 (stop_fits_at p l)
    ∷ [])

-- ---- any line
abbrev pub line_number_at : Rules → Progress → Line → ℕ
line_number_at r p (StationIn l) = cond r.extra (extra_station l) (station_number_at p l)
line_number_at r p (WalkIn l) = cond r.extra (extra_walk l) (walk_number_at p l)
line_number_at r p (StopIn l) = cond r.extra (extra_stop_at r p l) (stop_number_at p l)
line_number_at r p Shapeless = 2

-- ---- the answers are the same
same_fits : (d : Draft) (l : StopLine) → stop_fits d l ≡ stop_fits_at (progress d) l
unfolding stop_fits stop_fits_at comes_after
same_fits d l = ap (λ t. leb 1 l.station && leb l.station (length d.stations) && t) (by_begun d.begun)
  where
    by_begun : (b : Trip)
        → goes_on b l
        ≡ (eqb (length b) 0
        || not (eqb l.station (final b).station)
        && ltb (final b).depart l.arrive
        && (l.last || leb l.arrive l.depart))
    by_begun [] = refl
    by_begun (s ∷ r) = rw (eqb-suc-zero (length r))

same_rise : (w : List Walk) (l : WalkLine)
    → rises_after w (walk_of_line l) ≡ (eqb (length w) 0 || walk_before (last_walk w) (walk_of_line l))
same_rise [] l = refl
same_rise (v ∷ []) l = refl
same_rise (v ∷ u ∷ w) l = same_rise (u ∷ w) l ∙ rw (eqb-suc-zero (length w), eqb-suc-zero (suc (length w)))

same_rises : (d : Draft) (l : WalkLine) → rises_after d.walks (walk_of_line l) ≡ rises_at (progress d) l
unfolding rises_at walk_before
same_rises d l = same_rise d.walks l

text_number : (d : Draft) (line : Line) → line_number d line ≡ line_number_at text_rules (progress d) line
unfolding station_number station_number_at walk_number walk_number_at walk_fits walk_fits_at stop_number stop_number_at
text_number d (StationIn l) = refl
text_number d (WalkIn l) = rw (same_rises d l)
text_number d (StopIn l) = rw (same_fits d l)
text_number d Shapeless = refl

extra_number_lem : (r : Rules) (d : Draft) (l : StopLine) → extra_stop r d l ≡ extra_stop_at r (progress d) l
unfolding extra_stop extra_stop_at
extra_number_lem r d l = rw (same_fits d l)

pub same_number : (r : Rules) (d : Draft) (line : Line) → number_under r d line ≡ line_number_at r (progress d) line
same_number r d (StationIn l) = ap (cond r.extra (extra_station l)) (text_number d (StationIn l))
same_number r d (WalkIn l) = ap (cond r.extra (extra_walk l)) (text_number d (WalkIn l))
same_number r d (StopIn l) = λ i. cond r.extra (extra_number_lem r d l i) (text_number d (StopIn l) i)
same_number r d Shapeless = by_kind r.extra
  where
    by_kind : (b : Bool) → ◌≡◌ {A = ℕ} (cond b 2 2) 2
    by_kind true = refl
    by_kind false = refl
