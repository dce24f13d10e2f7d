-- Feasible connections take time, end within the two days, stay feasible for an earlier minute, and cost at most
-- 3,166,900 points. Their stations are listed, one for each ride's end and one for each boarding after a change.
use Rattle.std.specs.Prelude.{◌≡◌, refl, [], ℕ, suc, ◌+◌, ◌*◌, ◌≤◌, T, length}
use Rattle.std.proofs.Common.{arith}
use Rattle.timetable.specs.Timetable.{Timetable, last_minute, valid}
use Rattle.lists.specs.Pigeonhole.{Within}
use Rattle.lists.specs.Members.{none, cons_cases}
use Rattle.connections.specs.Rides.{Ride}
use Rattle.connections.specs.Connections.{Net, net, Connection, direct, onward, Boards, Feasible, ready}
use Rattle.connections.specs.Connections.{departure, arrival, penalty, stations}
use Rattle.connections.specs.Planner.{ride_count}
use Rattle.connections.proofs.Sound.{Sound, sound, ride_cheap, change_priced}

-- who can board later can board earlier
pub boards_earlier : (n : Net) (a t u : ℕ) (r : Ride) → t ≤ u → Boards n a u r → Boards n a t r
boards_earlier n a t u r h b = record { listed = b.listed; here = b.here; timely = omega arith }

-- at its own minute, whatever it was found for
pub boards_own : (n : Net) (a t : ℕ) (r : Ride) → Boards n a t r → Boards n a r.depart r
boards_own n a t r b = record { listed = b.listed; here = b.here; timely = omega arith }

-- a connection has stations
pub has_stations : (c : Connection) → ¬ (stations c ≡ [])
has_stations (direct r) e = let z : ◌≡◌ {A = ℕ} 0 1 = cc in omega arith
has_stations (onward r w c) e = let z : ◌≡◌ {A = ℕ} 0 1 = cc in omega arith

-- an odd number: one for the first ride, and two for each ride more
pub count_stations : (c : Connection) → suc (length (stations c)) ≡ 2 * ride_count c
count_stations (direct r) = refl
count_stations (onward r w c) = omega (arith, count_stations c)

module _ (n : Net) where
  pub earlier : (a t u b : ℕ) (c : Connection) → t ≤ u → Feasible n a u b c → Feasible n a t b c
  earlier a t u b (direct r) h f = (boards_earlier n a t u r h f.0, f.1)
  earlier a t u b (onward r w c) h f = (boards_earlier n a t u r h f.0, f.1, f.2)

  pub own_minute : (a t b : ℕ) (c : Connection) → Feasible n a t b c
      → (t ≤ departure c) × Feasible n a (departure c) b c
  own_minute a t b (direct r) f = (f.0.timely, (boards_own n a t r f.0, f.1))
  own_minute a t b (onward r w c) f = (f.0.timely, (boards_own n a t r f.0, f.1, f.2))

  module _ (ok : Sound n) where
    pub takes_time : (a t b : ℕ) (c : Connection) → Feasible n a t b c → t + ride_count c ≤ arrival c
    takes_time a t b (direct r) f = omega (arith, ok.forward r f.0.listed)
    takes_time a t b (onward r w c) f =
        omega (arith, ok.forward r f.0.listed, takes_time w.to (ready r w) b c f.2)

    pub ends_in_time : (a t b : ℕ) (c : Connection) → Feasible n a t b c → arrival c ≤ last_minute
    ends_in_time a t b (direct r) f = ok.bounded r f.0.listed
    ends_in_time a t b (onward r w c) f = ends_in_time w.to (ready r w) b c f.2

    -- it departs and arrives on a minute of the timetable
    pub departs_in_time : (a t b : ℕ) (c : Connection) → Feasible n a t b c → departure c ≤ last_minute
    departs_in_time a t b c f =
        let o = own_minute a t b c f in
        omega (arith, ends_in_time a t b c f, takes_time a (departure c) b c o.1)

    -- its stations are listed
    pub stations_listed : (a t b : ℕ) (c : Connection) → Feasible n a t b c → Within n.stations (stations c)
    stations_listed a t b (direct r) f x m = cons_cases m (λ e. rw e (ok.arrives r f.0.listed)) none
    stations_listed a t b (onward r w c) f x m =
        cons_cases
        m
        (λ e. rw e (ok.alights w f.1.listed))
        (λ k.
        cons_cases
        k
        (λ e. rw e (ok.boards w f.1.listed))
        (stations_listed w.to (ready r w) b c f.2 x))

-- A minute of a ride costs 100 points at the most, and before each change there is a minute of a ride.
module _ (t : Timetable) (v : T (valid t)) where
  penalty_rate : (a u b : ℕ) (c : Connection) → Feasible (net t) a u b c → penalty c + 1100 * u ≤ 1100 * arrival c
  penalty_rate a u b (direct r) f =
      omega (arith, ride_cheap t v r f.0.listed, (sound t v).forward r f.0.listed, f.0.timely)
  penalty_rate a u b (onward r w c) f =
      let p = change_priced t v w f.1.listed in
      let g = ride_cheap t v r f.0.listed in
      let h = (sound t v).forward r f.0.listed in
      omega (arith, p.points_most, f.0.timely, penalty_rate w.to (ready r w) b c f.2)

  -- no penalty comes near the end of 32 bits
  pub penalty_most_lem : (a u b : ℕ) (c : Connection) → Feasible (net t) a u b c → penalty c ≤ 3166900
  penalty_most_lem a u b c f = omega (arith, penalty_rate a u b c f, ends_in_time (net t) (sound t v) a u b c f)
