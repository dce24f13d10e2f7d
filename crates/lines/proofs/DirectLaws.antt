-- Lemma 1 of the paper: among the trips of a line that leave in time the first is no worse than any other. So the first
-- trips of the lines have the costs of all direct rides.
use Rattle.std.specs.Prelude.{◌≡◌, refl, Bool, ◌&&◌, ◌↔◌, List, [], ℕ, ◌≤◌, ◌<◌, T, leb, eqb, get_or}
use Rattle.std.proofs.Common.{sym, ap, subst, ◌∙◌, arith}
use mathlib.Core.List.Memᴰ
use Rattle.std.proofs.Math.Dec.{eqb→eq}
use Rattle.std.proofs.Math.ListN.{length}
use Rattle.timetable.specs.Timetable.{Trip, Timetable}
use Rattle.lists.specs.Lists.{◌∈◌, filter, first_of, range}
use Rattle.lists.specs.Tests.{T_left, T_right, reads, writes, eq→eqb}
use Rattle.lists.specs.Members.{filter_in, filter_out, first_out, concat_map_in, concat_map_out, range_in}
use Rattle.results.specs.Results.{costs}
use Rattle.results.proofs.Domination.{NoWorse}
use Rattle.results.proofs.Kept.{costs_covered}
use Rattle.connections.specs.Rides.{Ride, no_stop, ride_in, may_board, may_alight, may_ride}
use Rattle.connections.specs.Connections.{Net, net, Connection, direct, onward, Feasible, arrival, penalty, cost}
use Rattle.connections.specs.Planner.{boardable, measure, ride_count}
use Rattle.connections.proofs.RideLaws.{Taken, rides_in, rides_out, board_alike, alight_alike}
use Rattle.lines.specs.Lines.{behind, lines, course, station_on}
use Rattle.lines.specs.DirectRides.{directs, in_time, first_to, first_from, first_on, first_rides}
use Rattle.lines.proofs.Behind.{behind_at, behind_points}
use Rattle.lines.proofs.Ordered.{lines_good, line_length, line_stop, first_covers}
use Rattle.lines.specs.Once.{line_of_lem, trip_listed}

module _ (timetable : Timetable) where
  abbrev trips : List Trip
  trips = timetable.trips

  -- the ride between the same two places of the trip in front arrives no later and costs the same
  pub lemma_1 : (z w x y : ℕ) → T (behind (get_or trips z []) (get_or trips w []))
      → ((ride_in timetable z x y).arrive ≤ (ride_in timetable w x y).arrive)
      × ((ride_in timetable z x y).points ≡ (ride_in timetable w x y).points)
  lemma_1 z w x y h = (
    (behind_at (get_or trips z []) (get_or trips w []) h y).arrive,
    behind_points (get_or trips z []) (get_or trips w []) h x y,
  )

  -- where a line takes one from a to b: a place to board, and a later one to alight, both open to that
  pub record Pair (a b : ℕ) (l : List ℕ) (x y : ℕ) : Type 0 where
    pub later : x < y
    pub inside : y < length (course trips l)
    pub board : station_on trips l x ≡ a
    pub alight : station_on trips l y ≡ b
    pub boards : T (may_board (get_or (course trips l) x no_stop))
    pub alights : T (may_alight (get_or (course trips l) y no_stop))

  pub record FirstRide (a u b : ℕ) (c : Connection) : Type 0 where
    pub line : List ℕ
    pub x : ℕ
    pub y : ℕ
    pub z : ℕ
    pub listed : line ∈ lines trips
    pub pair : Pair a b line x y
    pub first : z ∈ first_of (in_time trips u x) line
    pub is : direct (ride_in timetable z x y) ≡ c

  abbrev boards_at : (a : ℕ) (l : List ℕ) (x : ℕ) → Bool
  boards_at a l x = eqb (station_on trips l x) a

  abbrev alights_at : (b : ℕ) (l : List ℕ) (x y : ℕ) → Bool
  alights_at b l x y = may_ride (course trips l) x y && eqb (station_on trips l y) b

  pub first_ride_lem : (a u b : ℕ) (c : Connection) → c ∈ first_rides timetable a u b → FirstRide a u b c
  unfolding first_rides
  first_ride_lem a u b c m =
      let i = concat_map_out (first_on timetable a u b) (lines trips) m in
      let l = i.0 in
      let size = length (course trips l) in
      let j = concat_map_out (first_from timetable u b l) (filter (boards_at a l) (range 0 size)) i.2 in
      let x = j.0 in
      let k = concat_map_out (first_to timetable u l x) (filter (alights_at b l x) (range 0 size)) j.2 in
      let y = k.0 in
      let w = Memᴰ.of_map (λ z. direct (ride_in timetable z x y)) (first_of (in_time trips u x) l) k.2 in
      let fx = filter_out (boards_at a l) (range 0 size) j.1 in
      let fy = (filter_out (alights_at b l x) (range 0 size) k.1).1 in
      record {
        line = l;
        x = x;
        y = y;
        z = w.0;
        listed = i.1;
        pair =
            record {
              later = search reads;
              inside = search reads;
              board = eqb→eq (station_on trips l x) a fx.1;
              alight = search reads;
              boards = search (T_left, T_right);
              alights = search (T_left, T_right);
            };
        first = w.1;
        is = w.2;
      }

  pub first_in : (a u b : ℕ) (l : List ℕ) (x y z : ℕ) → l ∈ lines trips → Pair a b l x y
      → z ∈ first_of (in_time trips u x) l
      → direct (ride_in timetable z x y) ∈ first_rides timetable a u b
  unfolding first_rides
  first_in a u b l x y z m p f =
      let size = length (course trips l) in
      let h = p.later in
      let g = p.inside in
      let at_x = range_in 0 size x (omega arith) (omega arith) in
      let at_y = range_in 0 size y (omega arith) (omega arith) in
      let to = p.alight in
      let open-x = p.boards in
      let open-y = p.alights in
      let boards = filter_in (boards_at a l) at_x (eq→eqb (station_on trips l x) a p.board) in
      let alights = filter_in (alights_at b l x) at_y (search writes) in
      let ride = Memᴰ.map (λ z. direct (ride_in timetable z x y)) f in
      let from-x = concat_map_in (first_to timetable u l x) alights ride in
      concat_map_in (first_on timetable a u b) m (concat_map_in (first_from timetable u b l) boards from-x)

some_rides : (c : Connection) → 1 ≤ ride_count c
some_rides (direct r) = omega arith
some_rides (onward r w c) = omega arith

module _ (timetable : Timetable) (a u b : ℕ) where
  abbrev t : List Trip
  t = timetable.trips

  abbrev n : Net
  n = net timetable

  abbrev wanted : Ride → Bool
  wanted r = boardable a u r && eqb r.to b

  pub direct_in : (r : Ride) → r ∈ n.rides → T (wanted r) → direct r ∈ directs n a u b
  unfolding directs
  direct_in r m w = Memᴰ.map direct (filter_in wanted m w)

  pub direct_out : (c : Connection) → c ∈ directs n a u b → (r : Ride) × (r ∈ n.rides) × T (wanted r) × (direct r ≡ c)
  unfolding directs
  direct_out c m =
      let x = Memᴰ.of_map direct (filter wanted n.rides) m in
      let f = filter_out wanted n.rides x.1 in
      (x.0, f.0, f.1, x.2)

  -- the direct rides are the feasible connections of one ride
  pub directs_exactly : (c : Connection) → c ∈ directs n a u b ↔ (Feasible n a u b c × (ride_count c ≡ 1))
  directs_exactly c = (out, into c)
    where
      out : c ∈ directs n a u b → Feasible n a u b c × (ride_count c ≡ 1)
      out m =
          let x = direct_out c m in
          let h = x.2 in
          let from : x.0.from ≡ a = search reads in
          let to : x.0.to ≡ b = search reads in
          let timely : u ≤ x.0.depart = search reads in
          rw (← x.3) ((record { listed = x.1; here = from; timely = timely }, to), refl)

      into : (c : Connection) → Feasible n a u b c × (ride_count c ≡ 1) → c ∈ directs n a u b
      into (direct r) f =
          let to = f.0.1 in
          let from = f.0.0.here in
          let timely = f.0.0.timely in
          direct_in r f.0.0.listed (search writes)
      into (onward r w c) f = absurd (omega (arith, f.1, some_rides c))

  -- a first ride is a direct ride
  pub first_direct : (c : Connection) → c ∈ first_rides timetable a u b → c ∈ directs n a u b
  first_direct c m =
      let f = first_ride_lem timetable a u b c m in
      let z = f.z in
      let o = lines_good t f.line f.listed in
      let p = f.pair in
      let k = first_out (in_time t u f.x) f.line f.first in
      let e = line_length t f.line z o k.0 in
      let i = p.inside in
      let z_listed = trip_listed t z (record { line = f.line; listed = f.listed; member = k.0 }) in
      let at_x = line_stop t f.line z f.x o k.0 in
      let at_y = line_stop t f.line z f.y o k.0 in
      let from = sym at_x.station ∙ p.board in
      let to = sym at_y.station ∙ p.alight in
      let timely = k.1 in
      let listed =
      rides_in timetable z f.x f.y z_listed p.later (omega arith)
      (board_alike _ _ at_x.mark p.boards) (alight_alike _ _ at_y.mark p.alights) in
      Memᴰ.cast (sym f.is) (direct_in (ride_in timetable z f.x f.y) listed (search writes))

  record Covered (c : Connection) : Type 0 where
    one : Connection
    first : one ∈ first_rides timetable a u b
    no_worse : NoWorse (cost u one) (cost u c)

  -- and each direct ride has a first ride that is no worse
  covered : (c : Connection) → c ∈ directs n a u b → Covered c
  covered c m = go (rides_out timetable r x.1)
    where
      x : (r : Ride) × (r ∈ n.rides) × T (wanted r) × (direct r ≡ c)
      x = direct_out c m

      r : Ride
      r = x.0

      w : T (wanted r)
      w = x.2

      go : Taken timetable r → Covered c
      go k =
          let z = k.z in
          let s = line_of_lem t z k.listed in
          let l = s.line in
          let o = lines_good t l s.listed in
          let e = line_length t l z o s.member in
          let i = k.inside in
          let h = w in
          let from : r.from ≡ a = search reads in
          let to : r.to ≡ b = search reads in
          let timely : T (leb u r.depart) = search reads in
          let z-leaves : T (in_time t u k.x z) = subst (λ v. T (leb u v.depart)) (sym k.is) timely in
          let f = first_covers t (in_time t u k.x) l o.ordered z s.member z-leaves in
          let q = lemma_1 timetable f.one z k.x k.y f.before in
          let arrives = ap (λ v. v.arrive) k.is in
          let points = ap (λ v. v.points) k.is in
          let arrives-c = ap arrival x.3 in
          let points-c = ap penalty x.3 in
          record {
            one = direct (ride_in timetable f.one k.x k.y);
            first =
                first_in
                timetable
                a
                u
                b
                l
                k.x
                k.y
                f.one
                s.listed
                (record {
                  later = k.later;
                  inside = omega arith;
                  board = (line_stop t l z k.x o s.member).station ∙ ap (λ v. v.from) k.is ∙ from;
                  alight = (line_stop t l z k.y o s.member).station ∙ ap (λ v. v.to) k.is ∙ to;
                  boards = board_alike _ _ (sym (line_stop t l z k.x o s.member).mark) k.boards;
                  alights = alight_alike _ _ (sym (line_stop t l z k.y o s.member).mark) k.alights;
                })
                f.found;
            no_worse = omega arith;
          }

  -- the first half of demand 2: the costs of a direct query, from the first trips of the lines
  pub direct_costs : costs (measure u) (first_rides timetable a u b) ≡ costs (measure u) (directs n a u b)
  direct_costs =
      costs_covered
      (measure u)
      (directs n a u b)
      (first_rides timetable a u b)
      first_direct
      (λ c m. let k = covered c m in (k.one, k.first, k.no_worse))
