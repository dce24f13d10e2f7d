-- The rides and changes of a timetable by their places, and how a ride's penalty is summed stop by stop.
use Rattle.std.specs.Prelude.{◌≡◌, Bool, true, false, not, ◌⊎◌, ℕ, zero, suc, ◌+◌, ◌≤◌, ◌<◌, eqb, length}
use Rattle.std.proofs.Math.Path.{refl, subst}
use Rattle.std.proofs.Common.{sym, ap, ◌∙◌, arith}
use Rattle.std.proofs.Math.Logic.{inl, inr}
use mathlib.Core.List.Memᴰ
use mathlib.Core.List.{List, [], ◌∷◌, map}
use Rattle.std.proofs.Math.Dec.{T}
use Rattle.std.proofs.Math.ListN.{get_or}
use Rattle.timetable.specs.Timetable.{Walk, Stop, Trip, Timetable, number_of, valid}
use Rattle.timetable.specs.Numbers.{number_unique}
use Rattle.lists.specs.Lists.{◌∈◌, filter, any, range}
use Rattle.lists.specs.Tests.{either, T_left, T_right, reads, writes}
use Rattle.lists.specs.Members.{append_cases, filter_in, filter_out, any_in, any_out, concat_map_in, concat_map_out}
use Rattle.lists.specs.Members.{range_in, range_out}
use Rattle.connections.specs.Rides.{Ride, no_stop, ride_points, ride_at, may_board, may_alight, may_ride}
use Rattle.connections.specs.Rides.{rides_from, trip_rides, ride_in, rides_of}
use Rattle.connections.specs.Connections.{Change, change_at, on_foot, along, applies, changes_of}

-- a ride of the timetable: a trip, a stop to board at and a later stop to alight at, both open to that
pub record Taken (t : Timetable) (r : Ride) : Type 0 where
  pub z : ℕ
  pub x : ℕ
  pub y : ℕ
  pub listed : z < length t.trips
  pub later : x < y
  pub inside : y < length (get_or t.trips z [])
  pub boards : T (may_board (get_or (get_or t.trips z []) x no_stop))
  pub alights : T (may_alight (get_or (get_or t.trips z []) y no_stop))
  pub is : ride_in t z x y ≡ r

-- stops that agree in their mark are open to the same
module _ (s u : Stop) (same : s.mark ≡ u.mark) where
  pub board_alike : T (may_board s) → T (may_board u)
  unfolding may_board
  board_alike h = subst (λ m. T (not (eqb m 2))) same h

  pub alight_alike : T (may_alight s) → T (may_alight u)
  unfolding may_alight
  alight_alike h = subst (λ m. T (not (eqb m 1))) same h

module _ (t : Timetable) where
  abbrev rides_at : (z : ℕ) → List Ride
  rides_at z = trip_rides (get_or t.trips z []) (number_of t z)

  pub rides_out : (r : Ride) → r ∈ rides_of t → Taken t r
  unfolding rides_of
  rides_out r m =
      let i = concat_map_out rides_at (range 0 (length t.trips)) m in
      let l = get_or t.trips i.0 [] in
      let n = number_of t i.0 in
      let j = concat_map_out (rides_from l n) (range 0 (length l)) i.2 in
      let k = Memᴰ.of_map (ride_at l n j.0) (filter (may_ride l j.0) (range 0 (length l))) j.2 in
      let a = range_out 0 (length t.trips) i.0 i.1 in
      let may = (filter_out {x = k.0} (may_ride l j.0) (range 0 (length l)) k.1).1 in
      record {
        z = i.0;
        x = j.0;
        y = k.0;
        listed = omega arith;
        later = search reads;
        inside = search reads;
        boards = search (T_left, T_right);
        alights = search (T_left, T_right);
        is = k.2;
      }

  pub rides_in : (z x y : ℕ) → z < length t.trips → x < y → y < length (get_or t.trips z [])
      → T (may_board (get_or (get_or t.trips z []) x no_stop)) → T (may_alight (get_or (get_or t.trips z []) y no_stop))
      → ride_in t z x y ∈ rides_of t
  unfolding rides_of
  rides_in z x y h g i b a =
      let l = get_or t.trips z [] in
      let n = number_of t z in
      let may : T (may_ride l x y) = search writes in
      let alight = filter_in (may_ride l x) (range_in 0 (length l) y (omega arith) (omega arith)) may in
      let board = range_in 0 (length l) x (omega arith) (omega arith) in
      let trip = range_in 0 (length t.trips) z (omega arith) (omega arith) in
      let on-trip = concat_map_in (rides_from l n) board (Memᴰ.map (ride_at l n x) alight) in
      concat_map_in rides_at trip on-trip

  -- a ride is known by its numbers
  pub ride_unique : T (valid t) → (r s : Ride) → r ∈ rides_of t → s ∈ rides_of t → r.trip ≡ s.trip → r.board ≡ s.board
      → r.alight ≡ s.alight → r ≡ s
  ride_unique ok r s m k e f g =
      sym i.is ∙ (λ v. ride_in t (same_z v) (same_x v) (same_y v)) ∙ j.is
    where
      i : Taken t r
      i = rides_out r m

      j : Taken t s
      j = rides_out s k

      same_z : i.z ≡ j.z
      same_z =
          number_unique t ok i.z j.z i.listed j.listed
          (ap (λ r. r.trip) i.is ∙ e ∙ sym (ap (λ r. r.trip) j.is))

      same_x : i.x ≡ j.x
      same_x = omega (arith, f, ap (λ r. r.board) i.is, ap (λ r. r.board) j.is)

      same_y : i.y ≡ j.y
      same_y = omega (arith, g, ap (λ r. r.alight) i.is, ap (λ r. r.alight) j.is)

-- ---- the S values of a station apply exactly if it has no walk to itself
pub record Own (t : Timetable) (z : ℕ) : Type 0 where
  pub inside : z < length t.stations
  pub alone : (v : Walk) → v ∈ t.walks → v.from ≡ suc z → v.to ≡ suc z → ⊥

pub applies_in : (l : List Walk) (z : ℕ) → ((v : Walk) → v ∈ l → v.from ≡ suc z → v.to ≡ suc z → ⊥) → T (applies l z)
applies_in l z alone =
    either
    (any (along (suc z)) l)
    (λ t.
    let r = any_out (along (suc z)) l t in
    let at = r.2 in
    absurd (alone r.0 r.1 (search reads) (search reads)))
    (λ t. t)

applies_out : (l : List Walk) (z : ℕ) → T (applies l z) → (v : Walk) → v ∈ l → v.from ≡ suc z → v.to ≡ suc z → ⊥
applies_out l z t v m from to = not_both (any (along (suc z)) l) t (any_in (along (suc z)) m (search writes))
  where
    not_both : (b : Bool) → T (not b) → T b → ⊥
    not_both true h g = h
    not_both false h g = g

-- a way of changing is a station's own, or a walk
module _ (t : Timetable) where
  abbrev own : List ℕ
  own = filter (applies t.walks) (range 0 (length t.stations))

  pub changes_out : (w : Change) → w ∈ changes_of t
      → ((z : ℕ) × Own t z × (change_at t.stations z ≡ w))
      ⊎ ((v : Walk) × (v ∈ t.walks) × (on_foot v ≡ w))
  unfolding changes_of
  changes_out w m =
      append_cases (map (change_at t.stations) own) m here (λ k. inr (Memᴰ.of_map on_foot t.walks k))
    where
      here : w ∈ map (change_at t.stations) own
          → ((z : ℕ) × Own t z × (change_at t.stations z ≡ w))
          ⊎ ((v : Walk) × (v ∈ t.walks) × (on_foot v ≡ w))
      here k =
          let r = Memᴰ.of_map (change_at t.stations) own k in
          let kept = filter_out {x = r.0} (applies t.walks) (range 0 (length t.stations)) r.1 in
          let h = range_out 0 (length t.stations) r.0 kept.0 in
          inl
          (r.0, record { inside = omega arith; alone = applies_out t.walks r.0 kept.1 }, r.2)

  pub changes_in : (z : ℕ) → Own t z → change_at t.stations z ∈ changes_of t
  unfolding changes_of
  changes_in z h =
      Memᴰ.append_left
      (map on_foot t.walks)
      (Memᴰ.map
      (change_at t.stations)
      (filter_in (applies t.walks) (range_in 0 (length t.stations) z (omega arith) (omega (arith, h.inside)))
      (applies_in t.walks z h.alone)))

  pub walks_in_lem : (v : Walk) → v ∈ t.walks → on_foot v ∈ changes_of t
  unfolding changes_of
  walks_in_lem v m = Memᴰ.append_right (map (change_at t.stations) own) (Memᴰ.map on_foot m)

-- the points of a ride, stop by stop
pub points_none : (l : Trip) (x : ℕ) → ride_points l x 0 ≡ 0
unfolding ride_points
points_none [] x = refl
points_none (s ∷ l) x = refl

module _ (s : Stop) (l : Trip) where
  pub points_first : (y : ℕ) → ride_points (s ∷ l) 0 (suc y) ≡ s.points + ride_points l 0 y
  unfolding ride_points
  points_first y = refl

  pub points_next : (x y : ℕ) → ride_points (s ∷ l) (suc x) (suc y) ≡ ride_points l x y
  unfolding ride_points
  points_next x y = refl

-- A ride's points part at any stop on the way; so they are the difference of two totals from the trip's first stop.
pub points_split : (l : Trip) (x w y : ℕ) → x ≤ w → w ≤ y → ride_points l x y ≡ ride_points l x w + ride_points l w y
unfolding ride_points
points_split [] x w y h g = refl
points_split (s ∷ l) x zero y h g = let e : x ≡ 0 = omega arith in rw e (omega arith)
points_split (s ∷ l) x (suc w) zero h g = absurd (omega arith)
points_split (s ∷ l) zero (suc w) (suc y) h g = omega (arith, points_split l 0 w y (omega arith) (omega arith))
points_split (s ∷ l) (suc x) (suc w) (suc y) h g = points_split l x w y (omega arith) (omega arith)

-- one stop further
pub points_more : (l : Trip) (x y : ℕ) → x ≤ y → y < length l
    → ride_points l x (suc y) ≡ ride_points l x y + (get_or l y no_stop).points
unfolding ride_points
points_more [] x y h g = absurd (omega arith)
points_more (s ∷ l) zero zero h g = omega (arith, points_none l 0)
points_more (s ∷ l) (suc x) zero h g = absurd (omega arith)
points_more (s ∷ l) zero (suc y) h g = omega (arith, points_more l 0 y (omega arith) (omega arith))
points_more (s ∷ l) (suc x) (suc y) h g = points_more l x y (omega arith) (omega arith)
