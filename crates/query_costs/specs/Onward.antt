-- The same for the words of a timetable and line tables that belong to it: what the code computes from ready words is
-- ready again, or lowers the penalties as is promised.
use Rattle.std.specs.Prelude.{◌≡◌, refl, Bool, true, false, cond, List, ◌∷◌, T, ltb, length, get_or}
use Rattle.std.proofs.Common.{sym, arith, ltb-true}
use Rattle.std.proofs.Math.Path.{subst}
use Prim.Native.Nat.{ℕ, ◌-◌, ◌≤◌, ◌<◌}
use Rattle.lists.specs.Lists.{◌∈◌}
use Rattle.timetable.specs.Timetable.{Timetable, valid}
use Rattle.timetable.specs.Words.{timetable_of, is_timetable, station_count, station_at, walks_to}
use Rattle.timetable.specs.Check.{length_stations}
use Rattle.timetable.specs.Access.{spelled_valid, station_is}
use Rattle.timetable.specs.Walks.{walks_rise, good_walk}
use Rattle.timetable.specs.WalkTo.{walk_to}
use Rattle.connections.specs.Rides.{Ride}
use Rattle.connections.specs.Connections.{net, Boards, Transfer, no_station}
use Rattle.connections.proofs.Sound.{sound, ride_cheap, station_priced}
use Rattle.lines_check.specs.Question10.{are_tables}
use Rattle.query_places.specs.Candidates.{near_read}
use Rattle.query_minutes.specs.Minutes.{no_points}
use Rattle.query_minutes.specs.Noted.{get_d_any}
use Rattle.query_rides.specs.Ridden.{near_rides, rides_near}
use Rattle.query_rides.specs.declared.Way.{Way}
use Rattle.query_rides.specs.Ways.{on_walk, at_station, way_between, Open, open_way}
use Rattle.query_costs.specs.Layering.{step_of, taken_all, first_value}
use Rattle.query_costs.specs.Fitting.{Fitting, Priced}
use Rattle.query_costs.specs.Lowered.{Lowered}
use Rattle.query_costs.specs.Readies.{Between, Ready, leaves, step_ready, end_lowered}

-- station x is one of the timetable's
pub record Listed (w : List ℕ) (x : ℕ) : Type 0 where
  pub some : 1 ≤ x
  pub inside : x ≤ station_count w

-- so are the first r stations that a path names
pub record Stations (w path : List ℕ) (r : ℕ) : Type 0 where
  pub listed : (k : ℕ) → k < r → Listed w (get_or path k 0)

-- behind some rides to station y and a change from it to station z
unfoldable pub change_words : (w p : List ℕ) (y z : ℕ) → List Ride → List ℕ
change_words w p y z l = step_of p (way_between w y z) l

module _ (w : List ℕ) (accepted : is_timetable w ≡ true) where
  abbrev t : Timetable
  t = timetable_of w

  pub is_valid : T (valid t)
  is_valid = rw (spelled_valid w accepted) tt

  -- ---- the change from a station
  module _ (y : ℕ) (i : Listed w y) (z : ℕ) where
    open_here : Open (net t) y z (way_between w y z)
    open_here = open_way w accepted y z i.some i.inside

    -- it takes and costs little
    own_priced : ((station_at w (y - 1)).minutes ≤ 240) × ((station_at w (y - 1)).points ≤ 1000)
    own_priced =
        let inside : y - 1 < length t.stations = omega (arith, i.some, i.inside, length_stations w) in
        let is = station_is w (y - 1) no_station (omega (arith, i.some, i.inside)) in
        let own = station_priced t is_valid (y - 1) inside in (
          subst (λ s. s.minutes ≤ 240) is own.minutes_most,
          subst (λ s. s.points ≤ 1000) is own.points_most,
        )

    pub way_priced : (g : Way) → g ≡ way_between w y z → Priced g
    unfolding way_between
    way_priced g e = subst Priced (sym e) (go (ltb k (walks_to w y)) refl)
      where
        k : ℕ
        k = walk_to w y z

        go : (b : Bool) → ltb k (walks_to w y) ≡ b
            → Priced (cond b (on_walk w y k) (at_station w y z))
        go false e = record { minutes_most = own_priced.0; points_most = own_priced.1 }
        go true e =
            let few = walks_rise w accepted y (station_count w) i.inside (omega arith) in
            let good = good_walk w accepted k (omega (arith, ltb-true k (walks_to w y) e)) in
            record { minutes_most = omega (arith, good.minutes_most); points_most = good.points_most }

  module _ (v : List ℕ) (own : are_tables w v ≡ true) (x : ℕ) (i : Listed w x) where
    inside : x ≤ length t.stations
    inside = omega (arith, i.inside, length_stations w)

    between : (y e : ℕ) → Between (net t) x y e (near_read v x e y)
    between y e =
        record {
          listed = λ r m. (read r m).0.listed;
          from = λ r m. (read r m).0.here;
          to = λ r m. (read r m).1;
          timely = λ r m. (read r m).0.timely;
          all =
              λ r m from to timely.
              rides_near w v x y e accepted own i.some inside r
              (record { listed = m; here = from; timely = timely }, to);
        }
      where
        read : (r : Ride) → r ∈ near_read v x e y → Boards (net t) x e r × (r.to ≡ y)
        read = near_rides w v x y e accepted own i.some inside

    module _ (a u : ℕ) (rev : List Transfer) (e : ℕ) (p : List ℕ) (is : Ready (net t) a u rev x e p) (y : ℕ) where
      abbrev l : List Ride
      l = near_read v x e y

      pub fitting : Fitting p l
      fitting = record { depart = depart; low = low; few = few }
        where
          b : Between (net t) x y e l
          b = between y e

          depart : (r : Ride) → r ∈ l → r.depart < 2880
          depart r m = leaves t is_valid a u r (b.listed r m)

          low : (r : Ride) → r ∈ l → get_or p r.depart 0 ≤ 3166900
          low r m =
              omega (
                arith,
                is.low r.depart (b.timely r m) (depart r m),
                get_d_any p r.depart 0 no_points (omega (arith, depart r m, is.long)),
              )

          few : (r : Ride) → r ∈ l → r.points ≤ 287900
          few r m =
              let k = b.listed r m in
              omega (arith, ride_cheap t is_valid r k, (sound t is_valid).bounded r k)

      pub step_on : Listed w y → (z : ℕ)
          → Ready (net t) a u (record { alighted = y; boarded = z } ∷ rev) z (first_value (change_words w p y z l))
          (change_words w p y z l)
      unfolding change_words
      step_on j z =
          step_ready t is_valid a u rev x e p is y l (between y e) z (way_between w y z) (open_here y j z)

      pub end_on : (old : List ℕ) → length old ≡ 2880 → Lowered (net t) a u rev y old (taken_all p 0 0 old l)
      end_on old long = end_lowered t is_valid a u rev x e p is y l (between y e) old long
