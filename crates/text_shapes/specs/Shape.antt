-- The three shapes of a line.
use Rattle.std.specs.Prelude.{◌≡◌, Bool, true, false, not, cond, ◌&&◌, List, [], ℕ, ◌≤◌, ◌<◌, eqb, length, get_or, drop}
use borrow.Author.Tests.{le-leb, lt-leb, not-true, not-false}
use Rattle.text.specs.Piece.{pieces}
use Rattle.text.specs.Number.{empty_field, is_number, field_value}
use Rattle.text.specs.Time.{time_value}
use Rattle.text_shapes.specs.declared.Line.{Line}
use Rattle.text_shapes.specs.declared.Line.TheVariants.{Station, Walk, Stop, Shapeless}

-- "Station: `S,station,change minutes,change penalty`", from the values behind the S
unfoldable pub station_of : (number minutes points : ℕ) → Line
station_of number minutes points =
    cond (is_number number && is_number minutes && is_number points)
    (Station (record { number = number; minutes = minutes; points = points }))
    Shapeless

-- field k of those behind the first
abbrev pub field : List (List ℕ) → ℕ → List ℕ
field f k = get_or f k []

unfoldable pub station_shape : List (List ℕ) → Line
station_shape f =
    cond (eqb (length f) 3)
    (station_of (field_value (field f 0)) (field_value (field f 1)) (field_value (field f 2)))
    Shapeless

-- document 02, One: "Lines `W,from,to,minutes,penalty`", from the values behind the W
unfoldable pub walk_of : (from to minutes points : ℕ) → Line
walk_of from to minutes points =
    cond (is_number from && is_number to && is_number minutes && is_number points)
    (Walk (record { from = from; to = to; minutes = minutes; points = points }))
    Shapeless

unfoldable pub walk_shape : List (List ℕ) → Line
walk_shape f =
    cond (eqb (length f) 4)
    (walk_of (field_value (field f 0)) (field_value (field f 1)) (field_value (field f 2)) (field_value (field f 3)))
    Shapeless

-- "Arrive is empty exactly at stop 1."
unfoldable pub arrive_fits : (stop arrive : ℕ) → Bool
arrive_fits stop arrive = cond (eqb stop 1) (eqb arrive empty_field) (is_number arrive)

-- "Depart and ride penalty are empty together, only at a trip's last stop and never at stop 1."
unfoldable pub depart_fits : (stop depart points : ℕ) → Bool
depart_fits stop depart points =
    cond (eqb depart empty_field) (not (eqb stop 1) && eqb points empty_field) (is_number depart && is_number points)

-- an empty field is 0
unfoldable pub filled : ℕ → ℕ
filled v = cond (eqb v empty_field) 0 v

-- "Stop: `T,trip,stop,station,arrive,depart,ride penalty`", and document 02, Two: "Each T line gains a last field"
unfoldable pub stop_fits : (trip stop station arrive depart points mark : ℕ) → Bool
stop_fits trip stop station arrive depart points mark =
    is_number trip
    && is_number stop
    && is_number station
    && arrive_fits stop arrive
    && depart_fits stop depart points
    && is_number mark

-- a stop line from the values behind the T
unfoldable pub stop_of : (trip stop station arrive depart points mark : ℕ) → Line
stop_of trip stop station arrive depart points mark =
    cond (stop_fits trip stop station arrive depart points mark)
    (Stop (record {
      trip = trip;
      stop = stop;
      station = station;
      arrive = filled arrive;
      depart = filled depart;
      points = filled points;
      mark = mark;
      last = eqb depart empty_field;
    }))
    Shapeless

-- arrive and depart are read by `time`
unfoldable pub stop_shape : (time : List ℕ → ℕ) → List (List ℕ) → Line
stop_shape time f =
    cond (eqb (length f) 7)
    (stop_of (field_value (field f 0)) (field_value (field f 1)) (field_value (field f 2)) (time (field f 3))
    (time (field f 4)) (field_value (field f 5)) (field_value (field f 6)))
    Shapeless

-- "Is it of a shape above?" A line begins with S (byte 83), W (byte 87) or T (byte 84) and a comma (byte 44). "Fields
-- stand .. parted by commas".
unfoldable pub shape_by : (time : List ℕ → ℕ) → List ℕ → Line
shape_by time line =
    cond (eqb (get_or line 1 0) 44)
    (cond (eqb (get_or line 0 0) 83) (station_shape (pieces 44 (drop 2 line)))
    (cond (eqb (get_or line 0 0) 87) (walk_shape (pieces 44 (drop 2 line)))
    (cond (eqb (get_or line 0 0) 84) (stop_shape time (pieces 44 (drop 2 line))) Shapeless)))
    Shapeless

-- times are written `hh:mm`
abbrev pub shape_of : List ℕ → Line
shape_of line = shape_by time_value line

-- ---- the tests on a walk's four values, one after the other
module _ (from to minutes points : ℕ) where
  pub from_unfit : 9999 < from → Shapeless ≡ walk_of from to minutes points
  unfolding walk_of
  from_unfit h = simp (lt-leb from 9999 h)

  module _ (f : from ≤ 9999) where
    pub to_unfit : 9999 < to → Shapeless ≡ walk_of from to minutes points
    unfolding walk_of
    to_unfit h = simp (le-leb from 9999 f, lt-leb to 9999 h)

    module _ (t : to ≤ 9999) where
      pub minutes_unfit : 9999 < minutes → Shapeless ≡ walk_of from to minutes points
      unfolding walk_of
      minutes_unfit h = simp (le-leb from 9999 f, le-leb to 9999 t, lt-leb minutes 9999 h)

      module _ (m : minutes ≤ 9999) where
        pub points_unfit : 9999 < points → Shapeless ≡ walk_of from to minutes points
        unfolding walk_of
        points_unfit h =
            simp (le-leb from 9999 f, le-leb to 9999 t, le-leb minutes 9999 m, lt-leb points 9999 h)

        pub walk_shaped : points ≤ 9999
            → Walk (record { from = from; to = to; minutes = minutes; points = points }) ≡ walk_of from to minutes
            points
        unfolding walk_of
        walk_shaped h = simp (le-leb from 9999 f, le-leb to 9999 t, le-leb minutes 9999 m, le-leb points 9999 h)

-- ---- the tests on a stop's seven values, one after the other
module _ (trip stop station arrive depart points mark : ℕ) where
  abbrev pub fitting : Bool
  fitting = stop_fits trip stop station arrive depart points mark

  pub trip_unfit : 9999 < trip → false ≡ fitting
  unfolding stop_fits
  trip_unfit h = simp (lt-leb trip 9999 h)

  pub stop_unfit : trip ≤ 9999 → 9999 < stop → false ≡ fitting
  unfolding stop_fits
  stop_unfit t h = simp (le-leb trip 9999 t, lt-leb stop 9999 h)

  module _ (t : trip ≤ 9999) (k : stop ≤ 9999) where
    pub station_unfit : 9999 < station → false ≡ fitting
    unfolding stop_fits
    station_unfit h = simp (le-leb trip 9999 t, le-leb stop 9999 k, lt-leb station 9999 h)

    module _ (s : station ≤ 9999) (fits : Bool) (f : fits ≡ arrive_fits stop arrive) where
      pub arrive_unfit : not fits ≡ true → false ≡ fitting
      unfolding stop_fits
      arrive_unfit h =
          simp (le-leb trip 9999 t, le-leb stop 9999 k, le-leb station 9999 s, ← f, not-true fits h)

      module _ (a : not fits ≡ false) (goes : Bool) (g : goes ≡ depart_fits stop depart points) where
        by_rest : fitting ≡ (goes && is_number mark)
        unfolding stop_fits
        by_rest =
            simp (le-leb trip 9999 t, le-leb stop 9999 k, le-leb station 9999 s, ← f, not-false fits a, ← g)

        pub depart_unfit : not goes ≡ true → false ≡ fitting
        depart_unfit h = rw (by_rest, not-true goes h)

        pub mark_decides : not goes ≡ false → is_number mark ≡ fitting
        mark_decides h = rw (by_rest, not-false goes h)

  -- ---- the line that they make
  module _ (fits : Bool) (f : fits ≡ fitting) where
    pub unfit_shapeless : not fits ≡ true → Shapeless ≡ stop_of trip stop station arrive depart points mark
    unfolding stop_of
    unfit_shapeless h = rw (← f, not-true fits h)

    pub stop_shaped : not fits ≡ false → (x y z : ℕ) → x ≡ filled arrive → y ≡ filled depart → z ≡ filled points
        → Stop (record {
          trip = trip;
          stop = stop;
          station = station;
          arrive = x;
          depart = y;
          points = z;
          mark = mark;
          last = eqb depart 10000;
        }) ≡ stop_of trip stop station arrive depart points mark
    unfolding stop_of
    stop_shaped h x y z p q r = simp (← f, not-false fits h, p, q, r)
