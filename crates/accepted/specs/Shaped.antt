-- What a line's shape says of its trip's number, and of its empty fields: "Arrive is empty exactly at stop 1. Depart
-- and ride penalty are empty together, only at a trip's last stop and never at stop 1." An empty field is 0.
use Rattle.std.specs.Prelude.{◌≡◌, refl, Bool, true, false, not, cond, ◌&&◌, List, ℕ, ◌≤◌, eqb}
use Rattle.std.proofs.Common.{leb-true, eq-eqb}
use Rattle.std.proofs.lemmas.Bool.{eqb-false, not-true}
use Rattle.lists.specs.Tests.{and_left, and_right}
use Rattle.text.specs.Number.{empty_field}
use Rattle.text_shapes.specs.Shape.{
  station_of,
  station_shape,
  walk_of,
  walk_shape,
  arrive_fits,
  depart_fits,
  filled,
  stop_fits,
}
use Rattle.text_shapes.specs.Shape.{stop_of, stop_shape, shape_by}
use Rattle.text_shapes.specs.declared.Line.{Line}
use Rattle.text_shapes.specs.declared.Line.TheVariants.{
  Station as StationIn,
  Walk as WalkIn,
  Stop as StopIn,
  Shapeless,
}
use Rattle.text_shapes.specs.declared.StationLine.{StationLine}
use Rattle.text_shapes.specs.declared.WalkLine.{WalkLine}
use Rattle.text_shapes.specs.declared.StopLine.{StopLine}

-- a stop line
pub record ShapedStop (l : StopLine) : Type 0 where
  pub trip : l.trip ≤ 9999
  pub first : l.stop ≡ 1 → l.arrive ≡ 0
  pub inner : l.last ≡ true → l.stop ≡ 1 → ⊥
  pub depart : l.last ≡ true → l.depart ≡ 0
  pub points : l.last ≡ true → l.points ≡ 0

-- any line; only a stop line has a trip and fields that may be empty
unfoldable pub Shaped : Line → Type 0
Shaped (StationIn l) = Unit {0}
Shaped (WalkIn l) = Unit {0}
Shaped (StopIn l) = ShapedStop l
Shaped Shapeless = Unit {0}

-- ---- the empty fields of a stop line
filled_empty : (v : ℕ) → eqb v empty_field ≡ true → filled v ≡ 0
unfolding filled
filled_empty v e = rw e

arrive_empty : (stop arrive : ℕ) → arrive_fits stop arrive ≡ true → stop ≡ 1 → filled arrive ≡ 0
unfolding arrive_fits
arrive_empty stop arrive e h = filled_empty arrive (rw (eq-eqb stop 1 h) at e)

module _ (stop depart points : ℕ) (e : depart_fits stop depart points ≡ true) (h : eqb depart empty_field ≡ true) where
  depart_empty : (not (eqb stop 1) && eqb points empty_field) ≡ true
  unfolding depart_fits
  depart_empty = rw h at e

  depart_inner : stop ≡ 1 → ⊥
  depart_inner = let w = depart_empty in eqb-false stop 1 (not-true _ (search (and_left)))

  points_empty : filled points ≡ 0
  points_empty = let w = depart_empty in filled_empty points (search (and_right))

fields_shaped : (trip stop station arrive depart points mark : ℕ)
    → stop_fits trip stop station arrive depart points mark ≡ true
    → ShapedStop (record {
      trip = trip;
      stop = stop;
      station = station;
      arrive = filled arrive;
      depart = filled depart;
      points = filled points;
      mark = mark;
      last = eqb depart empty_field;
    })
unfolding stop_fits
fields_shaped trip stop station arrive depart points mark e =
    record {
      trip = search (and_left, leb-true);
      first = arrive_empty stop arrive (search (and_left, and_right));
      inner = λ h. depart_inner stop depart points (search (and_left, and_right)) h;
      depart = λ h. filled_empty depart h;
      points = λ h. points_empty stop depart points (search (and_left, and_right)) h;
    }

-- ---- all lines
a_station : (l : StationLine) → Shaped (StationIn l)
unfolding Shaped
a_station l = tt

a_walk : (l : WalkLine) → Shaped (WalkIn l)
unfolding Shaped
a_walk l = tt

a_stop : (l : StopLine) → ShapedStop l → Shaped (StopIn l)
unfolding Shaped
a_stop l h = h

shapeless : Shaped Shapeless
unfolding Shaped
shapeless = tt

either_shaped : (b : Bool) (x y : Line) → (b ≡ true → Shaped x) → Shaped y → Shaped (cond b x y)
either_shaped true x y f g = f refl
either_shaped false x y f g = g

station_shaped : (number minutes points : ℕ) → Shaped (station_of number minutes points)
unfolding station_of
station_shaped number minutes points = search (either_shaped, a_station, shapeless)

walk_shaped : (from to minutes points : ℕ) → Shaped (walk_of from to minutes points)
unfolding walk_of
walk_shaped from to minutes points = search (either_shaped, a_walk, shapeless)

stop_shaped : (trip stop station arrive depart points mark : ℕ)
    → Shaped (stop_of trip stop station arrive depart points mark)
unfolding stop_of
stop_shaped trip stop station arrive depart points mark =
    search (either_shaped, a_stop, shapeless, fields_shaped)

pub shaped : (time : List ℕ → ℕ) (s : List ℕ) → Shaped (shape_by time s)
unfolding shape_by station_shape walk_shape stop_shape
shaped time s = search (either_shaped, shapeless, station_shaped, walk_shaped, stop_shaped) depth 8
