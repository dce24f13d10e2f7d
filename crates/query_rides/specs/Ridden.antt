-- The rides through which a cursor goes are some of the timetable that board at the one station at the minute or later
-- and alight at the other, if the line tables belong to the timetable, and no other of these is better.
use Rattle.std.specs.Prelude.{◌≡◌, refl, true, ◌↔◌, List, ℕ, ◌-◌, ◌≤◌, length, Some}
use Rattle.std.proofs.Common.{sym, ap, arith}
use mathlib.Core.List.Memᴰ
use Rattle.lists.specs.Lists.{◌∈◌}
use Rattle.lists.specs.Members.{range_in}
use Rattle.timetable.specs.Timetable.{Timetable, valid}
use Rattle.timetable.specs.Words.{timetable_of, is_timetable}
use Rattle.timetable.specs.Access.{spelled_valid}
use Rattle.connections.specs.Rides.{Ride}
use Rattle.connections.specs.Connections.{net, Connection, direct, onward, Boards}
use Rattle.lines.proofs.DirectLaws.{directs_exactly}
use Rattle.lines_lookup.specs.Told.{Told}
use Rattle.lines_lookup.specs.Holding.{holding}
use Rattle.lines_check.specs.Question10.{are_tables}
use Rattle.lines_check.specs.Built.{begins_holds}
use Rattle.query_places.specs.Candidates.{ride_on, near_read, all_read}
use Rattle.query_places.specs.Places.{reach_at}
use Rattle.query_nearest.specs.Bounds.{Bounds}
use Rattle.query_nearest.specs.Nearest.{Nearer}
use Rattle.query_nearest.specs.Gathered.{all_read_lem, near_all, all_near, near_bounds}
use Rattle.query_rides.specs.declared.Cursor.{Cursor}
use Rattle.query_rides.specs.Riding.{ride_of, near_left, Good}

-- what a connection begins with: a direct one is its ride
abbrev first_ride : Connection → Ride
first_ride (direct r) = r
first_ride (onward r w c) = r

module _
    (v : List ℕ)
    (t : Timetable)
    (told : Told v t)
    (sound : valid t ≡ true)
    (a b u : ℕ)
    (some : 1 ≤ a)
    (inside : a ≤ length t.stations)
  where
    told_rides : (r : Ride) → r ∈ all_read v a u b ↔ (Boards (net t) a u r × (r.to ≡ b))
    told_rides r = (to, from)
      where
        to : r ∈ all_read v a u b → Boards (net t) a u r × (r.to ≡ b)
        to m =
            let c = (all_read_lem v t told a u b some inside sound (direct r)).0 (Memᴰ.map direct m) in
            ((directs_exactly t a u b (direct r)).0 c).0

        from : Boards (net t) a u r × (r.to ≡ b) → r ∈ all_read v a u b
        from k =
            let c = (directs_exactly t a u b (direct r)).1 (k, refl) in
            let m = Memᴰ.of_map direct (all_read v a u b) ((all_read_lem v t told a u b some inside sound (direct r)).1
            c) in
            Memᴰ.cast (sym (ap first_ride m.2)) m.1

-- ---- the words of a timetable, and line tables that belong to it
module _
    (w v : List ℕ)
    (a b u : ℕ)
    (accepted : is_timetable w ≡ true)
    (own : are_tables w v ≡ true)
    (some : 1 ≤ a)
    (inside : a ≤ length (timetable_of w).stations)
  where
    told : Told v (timetable_of w)
    told =
        let t = timetable_of w in
        holding v t ((begins_holds v t).0 own)

    read_rides : (r : Ride) → r ∈ all_read v a u b ↔ (Boards (net (timetable_of w)) a u r × (r.to ≡ b))
    read_rides = told_rides v (timetable_of w) told (spelled_valid w accepted) a b u some inside

    -- those to the nearest places are among them, and none is missed that is as good
    pub near_rides : (r : Ride) → r ∈ near_read v a u b → Boards (net (timetable_of w)) a u r × (r.to ≡ b)
    near_rides r m =
        (read_rides r).0 (near_all v (timetable_of w) told a u b some inside (spelled_valid w accepted) r m)

    pub rides_near : (r : Ride) → Boards (net (timetable_of w)) a u r × (r.to ≡ b)
        → (e : Ride) × (e ∈ near_read v a u b) × Nearer e r
    rides_near r k =
        all_near v (timetable_of w) told a u b some inside (spelled_valid w accepted) r ((read_rides r).1 k)

    pub read_bounds : (r : Ride) → r ∈ near_read v a u b → Bounds u r
    read_bounds = near_bounds v (timetable_of w) told a u b some inside (spelled_valid w accepted)

-- the ride at which a cursor stands is left
pub ride_left : (v : List ℕ) (u : ℕ) (c : Cursor) → Good v c → ride_of v c ∈ near_left v u (Some c)
unfolding near_left ride_of
ride_left v u c good =
    let runs = good.at_trip in
    let g = c.boarding in
    let n = g.line.trips - c.j in
    let this = range_in c.j n c.j (omega arith) (omega arith) in
    Memᴰ.append_left _ (Memᴰ.map (λ i. ride_on v g.line g.call.place i (reach_at c.to)) this)
