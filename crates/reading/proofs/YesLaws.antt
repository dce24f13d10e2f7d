-- What a line is that has its yes to all questions.
use mathlib.Core.Path.{◌≡◌, sym, ◌∙◌}
use mathlib.Core.Bool.{Bool, true, false, cond, ◌&&◌, ◌||◌}
use mathlib.Core.List.{List, [], ◌∷◌}
use Prim.Native.Nat.{ℕ, ◌+◌, ◌*◌, ◌≤◌, ◌<◌}
use native.Mathlib.Omega.{arith}
use lib.ListN.{length}
use borrow.Author.Tests.{ltb-true, leb-true, eqb-true}
use lib.Dec.{leb, ltb, eqb}
use Rattle.questions.specs.Question.{ask, first_no, yes_here, yes_later}
use Rattle.lists.specs.Tests.{and_left, and_right}
use Rattle.text.specs.Range.{in_range, minutes_bound, points_bound, time_bound, ride_bound, mark_bound, walk_bound}
use Rattle.text_shapes.specs.declared.Line.TheVariants.{Station as StationIn, Walk as WalkIn, Stop as StopIn}
use Rattle.text_shapes.specs.declared.StationLine.{StationLine}
use Rattle.text_shapes.specs.declared.WalkLine.{WalkLine}
use Rattle.text_shapes.specs.declared.StopLine.{StopLine}
use Rattle.timetable.specs.Timetable.{last_minute}
use Rattle.reading_lines.specs.Draft.{Rules, station_in_range, walk_in_range, stop_in_range}
use Rattle.reading_lines.specs.Draft.{extra_station, extra_walk, extra_in_range}
use Rattle.reading_lines.specs.Progress.{
  Within,
  station_number_at,
  place_of_station,
  room_for_station,
  walk_number_at,
  place_of_walk,
  rises_at,
  room_for_walk,
  walk_fits_at,
  stop_number_at,
  place_of_stop,
  room_for_stop,
  stop_fits_at,
  place_of_extra,
  room_for_extra,
  extra_stop_at,
  line_number_at,
}
use Rattle.reading_lines.specs.declared.Progress.{Progress}

-- the tests of three and of four questions
three_yes : (a b c : Bool) → first_no (ask 3 a ∷ ask 4 b ∷ ask 5 c ∷ []) ≡ 0 → (a ≡ true) × (b ≡ true) × (c ≡ true)
three_yes a b c e =
    let second = yes_later 2 a (ask 4 b ∷ ask 5 c ∷ []) e in
    let third = yes_later 3 b (ask 5 c ∷ []) second in
    (yes_here 2 a (ask 4 b ∷ ask 5 c ∷ []) e, yes_here 3 b (ask 5 c ∷ []) second, yes_here 4 c [] third)

four_yes : (a b c d : Bool) → first_no (ask 3 a ∷ ask 4 b ∷ ask 5 c ∷ ask 6 d ∷ []) ≡ 0
    → (a ≡ true) × (b ≡ true) × (c ≡ true) × (d ≡ true)
four_yes a b c d e =
    let second = yes_later 2 a (ask 4 b ∷ ask 5 c ∷ ask 6 d ∷ []) e in
    let third = yes_later 3 b (ask 5 c ∷ ask 6 d ∷ []) second in
    let fourth = yes_later 4 c (ask 6 d ∷ []) third in (
      yes_here 2 a (ask 4 b ∷ ask 5 c ∷ ask 6 d ∷ []) e,
      yes_here 3 b (ask 5 c ∷ ask 6 d ∷ []) second,
      yes_here 4 c (ask 6 d ∷ []) third,
      yes_here 5 d [] fourth,
    )

pub record StationYes (p : Progress) (l : StationLine) : Type 0 where
  pub minutes : l.minutes ≤ 240
  pub least : 1 ≤ l.points
  pub most : l.points ≤ 1000
  pub before_walks : p.walks ≡ 0
  pub before_stops : p.stops ≡ 0
  pub turn : l.number ≡ p.stations + 1
  pub room : p.stations < 64

text_station_yes : (p : Progress) (l : StationLine) → station_number_at p l ≡ 0 → StationYes p l
unfolding station_number_at
text_station_yes p l e =
    let all = three_yes (station_in_range l) (place_of_station p l) (room_for_station p) e in
    let points = points_bound l.points (and_right (in_range 1 l.minutes) (in_range 2 l.points) all.0) in
    let placed = all.1 in
    record {
      minutes = minutes_bound l.minutes (and_left (in_range 1 l.minutes) (in_range 2 l.points) all.0);
      least = points.0;
      most = points.1;
      before_walks = search (and_left, eqb-true);
      before_stops = search (and_left, and_right, eqb-true);
      turn = search (and_right, eqb-true);
      room = ltb-true p.stations 64 all.2;
    }

-- no station line and no walk line of an extra trip has it
never_astray : (a : Bool) → first_no (ask 3 a ∷ ask 4 false ∷ []) ≡ 0 → ⊥
never_astray true e = omega arith
never_astray false e = omega arith

pub station_yes : (r : Rules) (p : Progress) (l : StationLine) (n : ℕ) → n ≡ line_number_at r p (StationIn l) → n ≡ 0
    → StationYes p l
unfolding extra_station
station_yes r p l n is e = by_kind r.extra (sym is ∙ e)
  where
    by_kind : (b : Bool) → cond b (extra_station l) (station_number_at p l) ≡ 0 → StationYes p l
    by_kind true f = absurd (never_astray (station_in_range l) f)
    by_kind false f = text_station_yes p l f

-- its words have room, and fit
module _ (r : Rules) (p : Progress) (l : StationLine) (n : ℕ) (is : n ≡ line_number_at r p (StationIn l)) (e : n ≡ 0)
  where
    pub station_room : (body : List ℕ) → length body ≡ 10368 → 2 * p.stations + 5 * p.stops + 2 ≤ length body
    station_room body h = omega (arith, station_yes r p l n is e)

    pub minutes_word : l.minutes < 65536
    minutes_word = omega (arith, station_yes r p l n is e)

    pub points_word : l.points < 65536
    points_word = omega (arith, station_yes r p l n is e)

pub record WalkYes (p : Progress) (l : WalkLine) : Type 0 where
  pub minutes : (1 ≤ l.minutes) × (l.minutes ≤ 60)
  pub points : (1 ≤ l.points) × (l.points ≤ 1000)
  pub before_stops : p.stops ≡ 0
  pub rises : rises_at p l ≡ true
  pub room : p.walks < 256
  pub from : l.from ≤ p.stations
  pub to : l.to ≤ p.stations

text_walk_yes : (p : Progress) (l : WalkLine) → walk_number_at p l ≡ 0 → WalkYes p l
unfolding walk_number_at walk_fits_at
text_walk_yes p l e =
    let all = four_yes (walk_in_range l) (place_of_walk p l) (room_for_walk p) (walk_fits_at p l) e in
    let placed = all.1 in
    let fits = all.3 in
    record {
      minutes = walk_bound l.minutes (and_left (in_range 6 l.minutes) (in_range 2 l.points) all.0);
      points = points_bound l.points (and_right (in_range 6 l.minutes) (in_range 2 l.points) all.0);
      before_stops = search (and_left, eqb-true);
      rises = search and_right;
      room = ltb-true p.walks 256 all.2;
      from = search (and_left, and_right, leb-true);
      to = search (and_right, leb-true);
    }

pub walk_yes : (r : Rules) (p : Progress) (l : WalkLine) (n : ℕ) → n ≡ line_number_at r p (WalkIn l) → n ≡ 0
    → WalkYes p l
unfolding extra_walk
walk_yes r p l n is e = by_kind r.extra (sym is ∙ e)
  where
    by_kind : (b : Bool) → cond b (extra_walk l) (walk_number_at p l) ≡ 0 → WalkYes p l
    by_kind true f = absurd (never_astray (walk_in_range l) f)
    by_kind false f = text_walk_yes p l f

-- its words have room, and fit
module _ (r : Rules) (p : Progress) (l : WalkLine) (n : ℕ) (is : n ≡ line_number_at r p (WalkIn l)) (e : n ≡ 0) where
  pub walk_room : (walking : List ℕ) → length walking ≡ 1024 → 4 * p.walks + 4 ≤ length walking
  walk_room walking h = omega (arith, walk_yes r p l n is e)

  pub walk_minutes_word : l.minutes < 65536
  walk_minutes_word = omega (arith, walk_yes r p l n is e)

  pub walk_points_word : l.points < 65536
  walk_points_word = omega (arith, walk_yes r p l n is e)

  module _ (within : Within p) where
    pub from_word : l.from < 65536
    from_word = omega (arith, walk_yes r p l n is e, within)

    pub to_word : l.to < 65536
    to_word = omega (arith, walk_yes r p l n is e, within)

pub record StopYes (p : Progress) (l : StopLine) : Type 0 where
  pub arrive : l.arrive ≤ last_minute
  pub depart : l.depart ≤ last_minute
  pub points : l.points ≤ 100
  pub mark : l.mark ≤ 2
  pub trips : p.trips < 256
  pub stops : p.stops < 2048
  pub station : l.station ≤ p.stations
  pub fits : stop_fits_at p l ≡ true

stop_station : (p : Progress) (l : StopLine) → stop_fits_at p l ≡ true → l.station ≤ p.stations
unfolding stop_fits_at
stop_station p l e =
    leb-true l.station p.stations
    (and_right (leb 1 l.station) (leb l.station p.stations) (and_left _ (eqb p.begun 0 || _) e))

-- the ranges of a stop line
record Ranges (l : StopLine) : Type 0 where
  arrive : l.arrive ≤ last_minute
  depart : l.depart ≤ last_minute
  points : l.points ≤ 100
  mark : l.mark ≤ 2

ranges : (l : StopLine) → stop_in_range l ≡ true → Ranges l
unfolding stop_in_range
ranges l e =
    let times = in_range 3 l.arrive && in_range 3 l.depart in
    let ride = times && in_range 4 l.points in
    let in-times = and_left times (in_range 4 l.points) (and_left ride (in_range 5 l.mark) e) in
    record {
      arrive = time_bound l.arrive (and_left (in_range 3 l.arrive) (in_range 3 l.depart) in-times);
      depart = time_bound l.depart (and_right (in_range 3 l.arrive) (in_range 3 l.depart) in-times);
      points =
          ride_bound l.points (and_right times (in_range 4 l.points) (and_left ride (in_range 5 l.mark) e));
      mark = mark_bound l.mark (and_right ride (in_range 5 l.mark) e);
    }

text_stop_yes : (p : Progress) (l : StopLine) → stop_number_at p l ≡ 0 → StopYes p l
unfolding stop_number_at
text_stop_yes p l e =
    let all = four_yes (stop_in_range l) (place_of_stop p l) (room_for_stop p) (stop_fits_at p l) e in
    let in_range_lem = ranges l all.0 in
    record {
      arrive = in_range_lem.arrive;
      depart = in_range_lem.depart;
      points = in_range_lem.points;
      mark = in_range_lem.mark;
      trips = ltb-true p.trips 256 (and_left (ltb p.trips 256) (ltb p.stops 2048) all.2);
      stops = ltb-true p.stops 2048 (and_right (ltb p.trips 256) (ltb p.stops 2048) all.2);
      station = stop_station p l all.3;
      fits = all.3;
    }

extra_stop_yes : (r : Rules) (p : Progress) (l : StopLine) → extra_stop_at r p l ≡ 0 → StopYes p l
unfolding extra_stop_at
extra_stop_yes r p l e =
    let all = four_yes (extra_in_range l) (place_of_extra r p l) (room_for_extra r p) (stop_fits_at p l) e in
    let in_range_lem = ranges l (and_right (leb 1 l.trip) (stop_in_range l) all.0) in
    let trips = ltb (r.trips + p.trips) 256 in
    let stops = ltb (r.stops + p.stops) 2048 in
    let few_trips = ltb-true (r.trips + p.trips) 256 (and_left trips stops all.2) in
    let few_stops = ltb-true (r.stops + p.stops) 2048 (and_right trips stops all.2) in
    record {
      arrive = in_range_lem.arrive;
      depart = in_range_lem.depart;
      points = in_range_lem.points;
      mark = in_range_lem.mark;
      trips = omega (arith, few_trips);
      stops = omega (arith, few_stops);
      station = stop_station p l all.3;
      fits = all.3;
    }

pub stop_yes : (r : Rules) (p : Progress) (l : StopLine) (n : ℕ) → n ≡ line_number_at r p (StopIn l) → n ≡ 0
    → StopYes p l
stop_yes r p l n is e = by_kind r.extra (sym is ∙ e)
  where
    by_kind : (b : Bool) → cond b (extra_stop_at r p l) (stop_number_at p l) ≡ 0 → StopYes p l
    by_kind true f = extra_stop_yes r p l f
    by_kind false f = text_stop_yes p l f

-- its words have room, and fit
module _ (r : Rules) (p : Progress) (l : StopLine) (n : ℕ) (is : n ≡ line_number_at r p (StopIn l)) (e : n ≡ 0) where
  pub arrive_word : l.arrive < 65536
  arrive_word = omega (arith, stop_yes r p l n is e)

  pub depart_word : l.depart < 65536
  depart_word = omega (arith, stop_yes r p l n is e)

  pub ride_word : l.points < 65536
  ride_word = omega (arith, stop_yes r p l n is e)

  pub mark_word : l.mark < 65536
  mark_word = omega (arith, stop_yes r p l n is e)

  pub trips_below : p.trips < 256
  trips_below = (stop_yes r p l n is e).trips

  pub stops_below : p.stops < 2048
  stops_below = (stop_yes r p l n is e).stops

  module _ (within : Within p) where
    pub station_word : l.station < 65536
    station_word = omega (arith, stop_yes r p l n is e, within)

    pub stop_room : (body : List ℕ) → length body ≡ 10368 → 2 * p.stations + 5 * p.stops + 5 ≤ length body
    stop_room body h = omega (arith, stop_yes r p l n is e, within)
