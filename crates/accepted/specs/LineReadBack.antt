-- A line written out from a valid timetable has its shape, and reads back to the values that were written. It holds no
-- byte 10; a station's line has at most 14 bytes, its byte 10 counted, and a walk's at most 16.
use Rattle.std.specs.Prelude.{◌≡◌, refl, Bool, true, false, cond, List, [], ℕ, ◌≤◌, ◌<◌, leb, eqb, length}
use Rattle.std.proofs.Common.{sym}
use Rattle.std.proofs.Math.ListN.{length-append}
use native.Mathlib.Omega.{arith}
use borrow.Author.Tests.{le-leb, eqb-true, ne_eqb}
use Rattle.text.specs.Number.{field_value, empty_field}
use Rattle.text.specs.Time.{time_value}
use Rattle.text_shapes.specs.Shape.{
  station_of,
  station_shape,
  walk_of,
  walk_shape,
  arrive_fits,
  depart_fits,
  filled,
  stop_fits,
}
use Rattle.text_shapes.specs.Shape.{stop_of, stop_shape, shape_by, shape_of}
use Rattle.text_shapes.specs.declared.Line.{Line}
use Rattle.text_shapes.specs.declared.Line.TheVariants.{Station as StationIn, Walk as WalkIn, Stop as StopIn}
use Rattle.timetable.specs.Timetable.{stations_most, stops_most, number_most, last_minute, Station, Walk, Stop}
use Rattle.timetable.specs.Timetable.{valid_station, valid_walk}
use Rattle.accepted.specs.Valid.{ValidStation, ValidWalk, Ends, StopRanges, valid_station_lem, valid_walk_lem}
use Rattle.accepted.specs.Marks.{above, all_above, fielded, above_fielded, all_free, pieces_fielded}
use Rattle.accepted.specs.Digits.{digits, digits_value, digits_above, four_bytes, three_bytes, two_bytes}
use Rattle.accepted.specs.Clock.{clock, clock_value, clock_above}
use Rattle.accepted.specs.WrittenOut.{station_fields, walk_fields, stop_fields, station_line, walk_line, empty_or}
use Rattle.accepted.specs.WrittenOut.{stop_line}

-- ---- what reading sees in a written line
abbrev pub station_read : ℕ → Station → Line
station_read n s = StationIn (record { number = n; minutes = s.minutes; points = s.points })

abbrev pub walk_read : Walk → Line
walk_read w = WalkIn (record { from = w.from; to = w.to; minutes = w.minutes; points = w.points })

abbrev pub stop_read : (trip k : ℕ) → Stop → (last : Bool) → Line
stop_read trip k s last =
    StopIn (record {
      trip = trip;
      stop = k;
      station = s.station;
      arrive = s.arrive;
      depart = s.depart;
      points = s.points;
      mark = s.mark;
      last = last;
    })

-- ---- a field
empty_value : field_value [] ≡ empty_field
unfolding field_value
empty_value = refl

field_value_lem : (empty : Bool) (n : ℕ) → n ≤ 9999 → field_value (empty_or empty (digits n)) ≡ cond empty empty_field n
field_value_lem true n h = empty_value
field_value_lem false n h = digits_value n h

no_time : time_value [] ≡ empty_field
unfolding time_value
no_time = refl

time_value_lem : (empty : Bool) (n : ℕ) → n ≤ last_minute → time_value (empty_or empty (clock n)) ≡ cond empty
    empty_field n
time_value_lem true n h = no_time
time_value_lem false n h = clock_value n h

field_above : (empty : Bool) (f : List ℕ) → above 44 f ≡ true → above 44 (empty_or empty f) ≡ true
unfolding above
field_above true f h = refl
field_above false f h = h

-- ---- a station's line
module _ (n : ℕ) (s : Station) (h : n ≤ stations_most) (v : valid_station s ≡ true) where
  ranges : ValidStation s
  ranges = valid_station_lem s v

  station_fields_lem : all_above 44 (station_fields n s) ≡ true
  unfolding all_above
  station_fields_lem =
      simp (
        digits_above n (omega arith),
        digits_above s.minutes (omega (arith, ranges)),
        digits_above s.points (omega (arith, ranges)),
      )

  pub station_shape_lem : shape_of (station_line n s) ≡ station_read n s
  unfolding shape_by station_line station_shape station_of
  station_shape_lem =
      rw (pieces_fielded _ _ (all_free 44 _ station_fields_lem))
      (simp (
        digits_value n (omega arith),
        digits_value s.minutes (omega (arith, ranges)),
        digits_value s.points (omega (arith, ranges)),
        le-leb n 9999 (omega arith),
        le-leb s.minutes 9999 (omega (arith, ranges)),
        le-leb s.points 9999 (omega (arith, ranges)),
      ))

  pub station_above : above 10 (station_line n s) ≡ true
  unfolding station_line above
  station_above = above_fielded (station_fields n s) station_fields_lem

  pub station_short : length (station_line n s) < 14
  unfolding station_line fielded
  station_short =
      simp length-append
      (omega (
        arith,
        two_bytes n (omega arith),
        three_bytes s.minutes (omega (arith, ranges)),
        four_bytes s.points (omega (arith, ranges)),
      ))

-- ---- a walk's line
module _ (n : ℕ) (w : Walk) (h : n ≤ stations_most) (v : valid_walk n w ≡ true) where
  fits : ValidWalk n w
  fits = valid_walk_lem n w v

  walk_fields_lem : all_above 44 (walk_fields w) ≡ true
  unfolding all_above
  walk_fields_lem =
      simp (
        digits_above w.from (omega (arith, fits)),
        digits_above w.to (omega (arith, fits)),
        digits_above w.minutes (omega (arith, fits)),
        digits_above w.points (omega (arith, fits)),
      )

  pub walk_shape_lem : shape_of (walk_line w) ≡ walk_read w
  unfolding shape_by walk_line walk_shape walk_of
  walk_shape_lem =
      rw (pieces_fielded _ _ (all_free 44 _ walk_fields_lem))
      (simp (
        digits_value w.from (omega (arith, fits)),
        digits_value w.to (omega (arith, fits)),
        digits_value w.minutes (omega (arith, fits)),
        digits_value w.points (omega (arith, fits)),
        le-leb w.from 9999 (omega (arith, fits)),
        le-leb w.to 9999 (omega (arith, fits)),
        le-leb w.minutes 9999 (omega (arith, fits)),
        le-leb w.points 9999 (omega (arith, fits)),
      ))

  pub walk_above : above 10 (walk_line w) ≡ true
  unfolding walk_line above
  walk_above = above_fielded (walk_fields w) walk_fields_lem

  pub walk_short : length (walk_line w) < 16
  unfolding walk_line fielded
  walk_short =
      simp length-append
      (omega (
        arith,
        two_bytes w.from (omega (arith, fits)),
        two_bytes w.to (omega (arith, fits)),
        two_bytes w.minutes (omega (arith, fits)),
        four_bytes w.points (omega (arith, fits)),
      ))

-- ---- a stop's line
-- what a valid timetable says of stop k of a trip, which is the last stop or is not
pub record Writable (trip k : ℕ) (s : Stop) (last : Bool) : Type 0 where
  pub trips : trip ≤ number_most
  pub stops : k ≤ stops_most
  pub ranges : StopRanges stations_most s
  pub first : k ≡ 1 → s.arrive ≡ 0
  pub final : last ≡ true → Ends s
  pub inner : last ≡ true → k ≡ 1 → ⊥

-- an empty field reads as 0, which is what the timetable has there
filled_back : (empty : Bool) (n : ℕ) → n ≤ 9999 → (empty ≡ true → n ≡ 0) → filled (cond empty empty_field n) ≡ n
unfolding filled
filled_back true n h z = sym (z refl)
filled_back false n h z = rw (ne_eqb n 10000 (omega arith))

arrive_fits_lem : (k a : ℕ) → a ≤ 9999 → arrive_fits k (cond (eqb k 1) empty_field a) ≡ true
unfolding arrive_fits
arrive_fits_lem k a h = by (eqb k 1)
  where
    by : (first : Bool) → cond first (eqb (cond first 10000 a) 10000) (leb (cond first 10000 a) 9999) ≡ true
    by true = refl
    by false = le-leb a 9999 h

depart_fits_lem : (k d p : ℕ) (last : Bool) → d ≤ 9999 → p ≤ 9999 → (last ≡ true → k ≡ 1 → ⊥)
    → depart_fits k (cond last empty_field d) (cond last empty_field p) ≡ true
unfolding depart_fits
depart_fits_lem k d p true h g n = simp (ne_eqb k 1 (n refl))
depart_fits_lem k d p false h g n = simp (ne_eqb d 10000 (omega arith), le-leb d 9999 h, le-leb p 9999 g)

last_empty : (last : Bool) (d : ℕ) → d ≤ 9999 → eqb (cond last empty_field d) empty_field ≡ last
last_empty true d h = refl
last_empty false d h = ne_eqb d 10000 (omega arith)

module _ (trip k : ℕ) (s : Stop) (last : Bool) (w : Writable trip k s last) where
  stop_fields_lem : all_above 44 (stop_fields trip k s last) ≡ true
  unfolding all_above
  stop_fields_lem =
      simp (
        digits_above trip (omega arith),
        digits_above k (omega arith),
        digits_above s.station (omega arith),
        field_above (eqb k 1) (clock s.arrive) (clock_above s.arrive (omega arith)),
        field_above last (clock s.depart) (clock_above s.depart (omega arith)),
        field_above last (digits s.points) (digits_above s.points (omega arith)),
        digits_above s.mark (omega arith),
      )

  pub stop_shape_lem : shape_of (stop_line trip k s last) ≡ stop_read trip k s last
  unfolding shape_by stop_line stop_shape stop_of stop_fits
  stop_shape_lem =
      rw (pieces_fielded _ _ (all_free 44 _ stop_fields_lem))
      (simp (
        digits_value trip (omega arith),
        digits_value k (omega arith),
        digits_value s.station (omega arith),
        time_value_lem (eqb k 1) s.arrive (omega arith),
        time_value_lem last s.depart (omega arith),
        field_value_lem last s.points (omega arith),
        digits_value s.mark (omega arith),
        le-leb trip 9999 (omega arith),
        le-leb k 9999 (omega arith),
        le-leb s.station 9999 (omega arith),
        le-leb s.mark 9999 (omega arith),
        arrive_fits_lem k s.arrive (omega arith),
        depart_fits_lem k s.depart s.points last (omega arith) (omega arith) w.inner,
        filled_back (eqb k 1) s.arrive (omega arith) (λ e. w.first (eqb-true k 1 e)),
        filled_back last s.depart (omega arith) (λ e. (w.final e).depart),
        filled_back last s.points (omega arith) (λ e. (w.final e).points),
        last_empty last s.depart (omega arith),
      ))

  pub stop_above : above 10 (stop_line trip k s last) ≡ true
  unfolding stop_line above
  stop_above = above_fielded (stop_fields trip k s last) stop_fields_lem
