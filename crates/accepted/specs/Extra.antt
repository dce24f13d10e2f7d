-- Whatever lines of an extra trip are accepted, they are those of one valid trip that may be added: `extra_one` and
-- `extra_valid` say so, for a reader.
use Rattle.std.specs.Prelude.{◌≡◌, Bool, false, ◌&&◌, ℕ, ◌+◌, ◌≤◌, ◌<◌, eqb}
use Rattle.std.proofs.Math.Path.{refl, ap, subst}
use Rattle.std.proofs.Math.Bool.{true}
use mathlib.Core.List.{List, [], ◌∷◌, ◌++◌}
use Rattle.std.proofs.Math.ListN.{length, get_or, length-append}
use native.Mathlib.Omega.{arith}
use Rattle.std.proofs.Common.{eqb-true}
use Rattle.lists.specs.Places.{no_length}
use Rattle.lists.specs.Tests.{and_left}
use Rattle.text.specs.Piece.{pieces}
use Rattle.text.specs.Time.{time_value}
use Rattle.text_shapes.specs.declared.Line.{Line}
use Rattle.text_shapes.specs.declared.Line.TheVariants.{
  Station as StationIn,
  Walk as WalkIn,
  Stop as StopIn,
  Shapeless,
}
use Rattle.text_shapes.specs.declared.StopLine.{StopLine}
use Rattle.timetable.specs.Timetable.{Station, Trip, Timetable, stops_of, number_most, valid_walks, valid_trip}
use Rattle.timetable.specs.Timetable.{valid_trips}
use Rattle.timetable.specs.Timetable.{valid}
use Rattle.timetable.specs.Changes.{runs_as, added}
use Rattle.reading_lines.specs.Draft.{Draft, Rules, extra_rules, opening, stop_of_line, with_stop, with_line}
use Rattle.reading_lines.specs.Progress.{progress, line_number_at}
use Rattle.reading.specs.Reading.{Accepted, read_extra}
use Rattle.accepted.specs.Valid.{is_valid}
use Rattle.accepted.specs.Passes.{ExtraPasses, extra_passed, station_refused, walk_refused}
use Rattle.accepted.specs.SoFar.{valid_so_far}
use Rattle.accepted.specs.Shaped.{ShapedStop, Shaped}
use Rattle.accepted.specs.Kept.{EndsWith, whole_of, lines_kept}
use Rattle.accepted.specs.Sound.{Sound, with_stop_lem}
use Rattle.accepted.specs.Changed.{Addable, added_valid}

-- ---- the lines of the extra trip of number n, where so many trips and stops run
module _ (stations : List Station) (n trips stops : ℕ) where
  abbrev rules : Rules
  rules = extra_rules n trips stops

  -- what holds of the draft: it has the stations given and no walk, and where a line has come, it has spelled the
  -- number
  record Extra (d : Draft) : Type 0 where
    sound : Sound rules d
    same : d.stations ≡ stations
    none : d.walks ≡ []
    named : 0 < length d.trips + length d.begun → (1 ≤ n) × (n ≤ number_most)

  stop_line_lem : (d : Draft) (l : StopLine) → ExtraPasses rules (progress d) l → ShapedStop l → Extra d
      → (last : Bool) → l.last ≡ last → Extra (with_stop d (stop_of_line l) last)
  stop_line_lem d l p shape h true e =
      record {
        sound = with_stop_lem rules d l p.passes shape h.sound true e;
        same = h.same;
        none = h.none;
        named = λ _. (omega (arith, p.least, p.trip), omega (arith, shape.trip, p.trip));
      }
  stop_line_lem d l p shape h false e =
      record {
        sound = with_stop_lem rules d l p.passes shape h.sound false e;
        same = h.same;
        none = h.none;
        named = λ _. (omega (arith, p.least, p.trip), omega (arith, shape.trip, p.trip));
      }

  extra_line : (d : Draft) (line : Line) → Shaped line → line_number_at rules (progress d) line ≡ 0 → Extra d
      → Extra (with_line d line)
  unfolding Shaped
  extra_line d (StationIn l) shape e h = absurd (station_refused l e)
  extra_line d (WalkIn l) shape e h = absurd (walk_refused l e)
  extra_line d (StopIn l) shape e h = stop_line_lem d l (extra_passed rules (progress d) l e) shape h l.last refl
  extra_line d Shapeless shape e h = absurd (omega arith)

-- ---- the whole
-- an accepted extra trip: the timetable read has the stations of t and this trip alone, which may be added, and no walk
pub record ExtraRead (t : Timetable) (n : ℕ) (one : Timetable) : Type 0 where
  pub stations : one.stations ≡ t.stations
  pub walks : one.walks ≡ []
  pub numbers : one.numbers ≡ n ∷ []
  pub trips : one.trips ≡ get_or one.trips 0 [] ∷ []
  pub addable : Addable t n (get_or one.trips 0 [])

one_trip_lem : (l : List Trip) → length l ≡ 1 → l ≡ get_or l 0 [] ∷ []
one_trip_lem [] e = absurd (omega arith)
one_trip_lem (x ∷ l) e = ap (λ r. x ∷ r) (no_length l (omega arith))

module _ (t : Timetable) (n : ℕ) (text : List ℕ) (v : valid t ≡ true) where
  begin : Extra t.stations n (length t.trips) (length (stops_of t.trips)) (opening t.stations)
  unfolding valid_so_far valid_walks valid_trips
  begin =
      let w = is_valid t v in
      record {
        sound =
            record {
              stations = w.stations;
              walks = omega arith;
              trips = omega (arith, w.trips);
              stops = omega (arith, w.stops);
              each_station = w.each_station;
              each_walk = refl;
              each_trip = refl;
              begun = refl;
            };
        same = refl;
        none = refl;
        named = λ some. absurd (omega arith);
      }

  module _ (one : Timetable) (lines : ℕ) (e : read_extra t n text ≡ Accepted one lines)
      (free : runs_as n t.numbers ≡ false)
    where
      abbrev own : Rules
      own = extra_rules n (length t.trips) (length (stops_of t.trips))

      abbrev Own : Draft → Type 0
      Own = Extra t.stations n (length t.trips) (length (stops_of t.trips))

      ends : EndsWith own Own one
      unfolding read_extra
      ends =
          lines_kept own Own (extra_line t.stations n (length t.trips) (length (stops_of t.trips)))
          time_value (opening t.stations) 1 (pieces 10 text) one lines begin e

      whole_one : (d : Draft) → Own d → eqb (length d.trips) 1 && eqb (length d.begun) 0 ≡ true
          → ExtraRead t n (whole_of own d)
      unfolding valid_trips
      whole_one d h c =
          let single : length d.trips ≡ 1 = search (and_left, eqb-true) in
          let is = one_trip_lem d.trips single in
          let x = get_or d.trips 0 [] in
          let s = h.sound in
          let named = h.named (omega arith) in
          let each : valid_trips (length d.stations) (x ∷ []) ≡ true =
          subst (λ l. valid_trips (length d.stations) l ≡ true) is s.each_trip in
          let stops : length (stops_of d.trips) ≡ length (x ++ []) = ap (λ l. length (stops_of l)) is in
          record {
            stations = h.same;
            walks = h.none;
            numbers = refl;
            trips = is;
            addable =
                record {
                  least = named.0;
                  most = named.1;
                  free = free;
                  trips = omega (arith, s.trips);
                  stops = omega (
                    arith,
                    s.stops,
                    length-append (stops_of d.trips) d.begun,
                    length-append x [],
                  );
                  trip =
                      subst (λ l. valid_trip (length l) x ≡ true) h.same
                      (and_left (valid_trip (length d.stations) x) true each);
                };
          }

      pub extra_one : ExtraRead t n one
      extra_one = subst (ExtraRead t n) ends.is (whole_one ends.draft ends.holds ends.complete)

      -- the timetable with the trip is valid again
      pub extra_valid : valid (added t n (get_or one.trips 0 [])) ≡ true
      extra_valid = added_valid t n (get_or one.trips 0 []) v extra_one.addable
