-- What the code gathers from line tables: all direct rides, and of those from one place of a line the ones to the
-- nearest place, on the first trip or on all. The nearest have the result of all, the first have their costs, and those
-- of a valid timetable keep within the bounds of the code's numbers.
use Rattle.std.specs.Prelude.{◌≡◌, refl, true, ◌↔◌, List, [], ◌∷◌, map, ℕ, ◌≤◌, ◌<◌, T, leb, length, get_or}
use Rattle.std.proofs.Common.{sym, ap, subst, ◌∙◌, inl, inr, arith}
use mathlib.Core.List.Memᴰ
use mathlib.Core.List.Memᴰ.{head as here}
use Rattle.timetable.specs.Timetable.{Trip, Timetable, valid}
use Rattle.timetable.specs.Numbers.{number_most_lem}
use Rattle.lists.specs.Lists.{◌∈◌, first_of}
use Rattle.lists.specs.Tests.{reads, writes}
use Rattle.lists.specs.Members.{none}
use Rattle.results.specs.Results.{costs, Picked}
use Rattle.results.proofs.Domination.{NoWorse, Better, dominates_in}
use Rattle.results.proofs.Kept.{costs_covered, result_kept, empty_kept}
use Rattle.connections.specs.Rides.{Ride, ride_in}
use Rattle.connections.specs.Connections.{net, Connection, direct, cost}
use Rattle.connections.specs.Planner.{measure, rows_of}
use Rattle.connections.proofs.RideLaws.{Taken, rides_in, rides_out, board_alike, alight_alike}
use Rattle.connections.proofs.Sound.{sound, ride_cheap}
use Rattle.lines.specs.Lines.{lines, course}
use Rattle.lines.specs.DirectRides.{directs, in_time, first_rides}
use Rattle.lines.proofs.DirectLaws.{Pair, first_ride_lem, first_in, first_direct, direct_in, direct_out}
use Rattle.lines.proofs.DirectLaws.{directs_exactly}
use Rattle.lines.proofs.DirectLaws.{direct_costs}
use Rattle.lines.proofs.Ordered.{line_length, line_stop}
use Rattle.lines.specs.Once.{OnLine, line_of_lem, trip_listed}
use Rattle.lines_tables.specs.Spelled.{within}
use Rattle.lines_lookup.specs.Lookup.{line_at}
use Rattle.lines_lookup.specs.First.{first_trip}
use Rattle.lines_lookup.specs.Told.{Told}
use Rattle.query_nearest.specs.Bounds.{Bounds}
use Rattle.query_places.specs.Candidates.{first_read, near_read, all_read}
use Rattle.query_nearest.specs.Nearest.{Nearer, nearer_sooner, nearer_ride}
use Rattle.query_nearest.specs.Foremost.{placed}
use Rattle.query_nearest.specs.Reached.{first_trip_in, first_trip_out}
use Rattle.query_nearest.specs.ByLine.{line_of, ride_by, By, Read, line_listed, line_good, from_inside}
use Rattle.query_nearest.specs.ByLine.{first_listed, all_listed, first_read_in, first_read_out, near_listed}
use Rattle.query_nearest.specs.ByLine.{near_read_in, near_read_out, all_read_in, all_read_out, timely_by}
use Rattle.query_nearest.specs.ByLine.{by_timely}

module _
    (v : List ℕ)
    (timetable : Timetable)
    (told : Told v timetable)
    (a u b : ℕ)
    (some : 1 ≤ a)
    (inside : a ≤ length timetable.stations)
    (yes : valid timetable ≡ true)
  where
    abbrev t : List Trip
    t = timetable.trips

    is_valid : T (valid timetable)
    is_valid = rw yes tt

    abbrev n : ℕ
    n = length timetable.stations

    -- the first trip of the line at place i that leaves place x in time
    abbrev first : (i x : ℕ) → ℕ
    first i x = first_trip v (line_at v i) x u

    module _ (i x y j : ℕ) (k : By timetable a b i x y j) where
      by_first : first i x ≡ j → direct (ride_by timetable i x y j) ∈ first_rides timetable a u b
      by_first e =
          let runs : first i x < length (line_of t i) = omega (arith, e, k.runs) in
          let x_inside = from_inside timetable a b i x y j k in
          let trip = first_trip_in v timetable i (line_of t i) (told.line i k.listed) x u x_inside runs in
          let this = subst (λ j. get_or (line_of t i) j 0 ∈ first_of (in_time t u x) (line_of t i)) e trip in
          first_in timetable a u b (line_of t i) x y (get_or (line_of t i) j 0) (line_listed t i k.listed) k.pair this

      by_direct : (1 ≤ b) × (b ≤ n) → first i x ≤ j → direct (ride_by timetable i x y j) ∈ directs (net timetable) a u b
      by_direct to_listed h =
          let z = get_or (line_of t i) j 0 in
          let good = line_good t i k.listed in
          let member = within (line_of t i) j 0 k.runs in
          let line = line_listed t i k.listed in
          let on_line : OnLine t z = record { line = line_of t i; listed = line; member = member } in
          let long = line_length t (line_of t i) z good member in
          let end = k.pair.inside in
          let at_x = line_stop t (line_of t i) z x good member in
          let at_y = line_stop t (line_of t i) z y good member in
          let from = sym at_x.station ∙ k.pair.board in
          let to = sym at_y.station ∙ k.pair.alight in
          let timely = timely_by v timetable told yes a u b some inside to_listed.0 to_listed.1 i x y j k h in
          let listed =
          rides_in timetable z x y (trip_listed t z on_line) k.pair.later (omega arith)
          (board_alike _ _ at_x.mark k.pair.boards) (alight_alike _ _ at_y.mark k.pair.alights) in
          direct_in timetable a u b (ride_by timetable i x y j) listed (search writes)

    -- a nearer ride is no worse
    nearer_cost : (e r : Ride) → Nearer e r → NoWorse (cost u (direct e)) (cost u (direct r))
    nearer_cost e r k = omega (arith, k.points, nearer_sooner e r k)

    -- a direct ride ends at a listed station
    direct_listed : (c : Connection) → c ∈ directs (net timetable) a u b → (1 ≤ b) × (b ≤ n)
    direct_listed c m =
        let r = direct_out timetable a u b c m in
        let wanted = r.2 in
        let to : r.0.to ≡ b = search reads in
        subst (λ b. (1 ≤ b) × (b ≤ n)) to ((sound timetable is_valid).arrives r.0 r.1)

    -- ---- the first rides read are those of the lines, to the nearest places
    first_to : (c : Connection) → c ∈ map direct (first_read v a u b) → c ∈ first_rides timetable a u b
    first_to c m =
        let r = Memᴰ.of_map direct (first_read v a u b) m in
        let listed = first_listed v timetable told yes a u b r.0 r.1 in
        let q = first_read_out v timetable told yes a u b some inside listed.0 listed.1 r.0 r.1 in
        let k = q.0 in
        Memᴰ.cast (sym (ap direct k.is ∙ r.2)) (by_first k.i k.x k.y k.j k.by q.1)

    -- a ride to a nearer place of its line
    nearer_by : (i x z y j : ℕ) → By timetable a b i x y j → x < z → z ≤ y
        → Nearer (ride_by timetable i x z j) (ride_by timetable i x y j)
    nearer_by i x z y j k later nearer =
        let g = get_or (line_of t i) j 0 in
        let member = within (line_of t i) j 0 k.runs in
        let long = line_length t (line_of t i) g (line_good t i k.listed) member in
        let line = line_listed t i k.listed in
        let on_line : OnLine t g = record { line = line_of t i; listed = line; member = member } in
        nearer_ride timetable is_valid g (trip_listed t g on_line) x z y later nearer (omega (arith, k.pair.inside))

    -- each first ride of a line has one of these that is no worse
    first_back : (c : Connection) → c ∈ first_rides timetable a u b
        → (e : Connection) × (e ∈ map direct (first_read v a u b)) × NoWorse (cost u e) (cost u c)
    first_back c m =
        let listed = direct_listed c (first_direct timetable a u b c m) in
        let r = first_ride_lem timetable a u b c m in
        let x = r.x in
        let y = r.y in
        let p = placed (lines t) [] r.line r.listed in
        let i = p.place in
        let pair = subst (λ l. Pair timetable a b l x y) (sym p.is) r.pair in
        let member = subst (λ l. r.z ∈ first_of (in_time t u x) l) (sym p.is) r.first in
        let x_inside : x < length (course t (line_of t i)) = omega (arith, pair.later, pair.inside) in
        let q = first_trip_out v timetable i (line_of t i) (told.line i p.inside) x u x_inside r.z member in
        let j = first i x in
        let by : By timetable a b i x y j = record { listed = p.inside; pair = pair; runs = q.0 } in
        let same = ap (λ z. direct (ride_in timetable z x y)) q.1 ∙ r.is in
        let near = first_read_in v timetable told yes a u b some inside listed.0 listed.1 i x y j by refl in
        let e = ride_by timetable i x near.0 j in (
          direct e,
          Memᴰ.map direct near.3,
          subst
              (λ c. NoWorse (cost u (direct e)) (cost u c))
              same
              (nearer_cost e (ride_by timetable i x y j) (nearer_by i x near.0 y j by near.1 near.2)),
        )

    -- ---- all rides read are the direct rides
    all_to : (c : Connection) → c ∈ map direct (all_read v a u b) → c ∈ directs (net timetable) a u b
    all_to c m =
        let r = Memᴰ.of_map direct (all_read v a u b) m in
        let listed = all_listed v timetable told yes a u b r.0 r.1 in
        let q = all_read_out v timetable told yes a u b some inside listed.0 listed.1 r.0 r.1 in
        let k = q.0 in
        Memᴰ.cast (sym (ap direct k.is ∙ r.2))
        (by_direct k.i k.x k.y k.j k.by listed q.1)

    -- a direct ride by the line of its trip
    on_its_line : (r : Ride) → r.from ≡ a → r.to ≡ b → Taken timetable r → Read timetable a b r
    on_its_line r from to k =
        let z = k.z in
        let s = line_of_lem t z k.listed in
        let p = placed (lines t) [] s.line s.listed in
        let i = p.place in
        let member = subst (λ l. z ∈ l) (sym p.is) s.member in
        let q = placed (line_of t i) 0 z member in
        let good = line_good t i p.inside in
        let long = line_length t (line_of t i) z good member in
        let at_x = line_stop t (line_of t i) z k.x good member in
        let at_y = line_stop t (line_of t i) z k.y good member in
        let board = at_x.station ∙ ap (λ r. r.from) k.is ∙ from in
        let alight = at_y.station ∙ ap (λ r. r.to) k.is ∙ to in
        let end : k.y < length (course t (line_of t i)) = omega (arith, k.inside) in
        record {
          i = i;
          x = k.x;
          y = k.y;
          j = q.place;
          by =
              record {
                listed = p.inside;
                pair =
                    record {
                      later = k.later;
                      inside = end;
                      board = board;
                      alight = alight;
                      boards = board_alike _ _ (sym at_x.mark) k.boards;
                      alights = alight_alike _ _ (sym at_y.mark) k.alights;
                    };
                runs = q.inside;
              };
          is = ap (λ z. ride_in timetable z k.x k.y) q.is ∙ k.is;
        }

    all_back : (c : Connection) → c ∈ directs (net timetable) a u b → c ∈ map direct (all_read v a u b)
    all_back c m =
        let listed = direct_listed c m in
        let r = direct_out timetable a u b c m in
        let wanted = r.2 in
        let from : r.0.from ≡ a = search reads in
        let to : r.0.to ≡ b = search reads in
        let timely : T (leb u r.0.depart) = search reads in
        let k = on_its_line r.0 from to (rides_out timetable r.0 r.1) in
        let leaves = subst (λ r. T (leb u r.depart)) (sym k.is) timely in
        let behind =
        by_timely v timetable told yes a u b some inside listed.0 listed.1 k.i k.x k.y k.j k.by
        leaves in
        Memᴰ.cast (sym (ap direct k.is ∙ r.3))
        (Memᴰ.map direct
        (all_read_in v timetable told yes a u b some inside listed.0 listed.1 k.i k.x k.y k.j k.by
        behind))

    pub all_read_lem : (c : Connection) → c ∈ map direct (all_read v a u b) ↔ c ∈ directs (net timetable) a u b
    all_read_lem c = (all_to c, all_back c)

    -- ---- those to the nearest places are among them, and none is missed that is as good
    pub near_all : (r : Ride) → r ∈ near_read v a u b → r ∈ all_read v a u b
    near_all r m =
        let listed = near_listed v timetable told yes a u b r m in
        near_read_out v timetable told yes a u b some inside listed.0 listed.1 r m

    pub all_near : (r : Ride) → r ∈ all_read v a u b → (e : Ride) × (e ∈ near_read v a u b) × Nearer e r
    all_near r m =
        let listed = all_listed v timetable told yes a u b r m in
        let q = all_read_out v timetable told yes a u b some inside listed.0 listed.1 r m in
        let k = q.0 in
        let near =
        near_read_in v timetable told yes a u b some inside listed.0 listed.1 k.i k.x k.y k.j k.by
        q.1 in
        let e = ride_by timetable k.i k.x near.0 k.j in (
          e,
          near.3,
          subst (Nearer e) k.is
              (nearer_by k.i k.x near.0 k.y k.j k.by near.1 near.2),
        )

    -- ---- how large their numbers get
    direct_bounds : (r : Ride) → direct r ∈ directs (net timetable) a u b → Bounds u r
    direct_bounds r m =
        let boards = ((directs_exactly timetable a u b (direct r)).0 m).0.0 in
        let listed = boards.listed in
        let net-sound = sound timetable is_valid in
        let forward = net-sound.forward r listed in
        let bounded = net-sound.bounded r listed in
        let cheap = ride_cheap timetable is_valid r listed in
        let k = rides_out timetable r listed in
        let number = ap (λ r. r.trip) k.is in
        record {
          leaves = boards.timely;
          later = forward;
          minute = omega arith;
          depart_minute = omega arith;
          few = omega arith;
          trip_few = omega (arith, number, number_most_lem timetable is_valid k.z k.listed);
        }

    pub all_bounds : (r : Ride) → r ∈ all_read v a u b → Bounds u r
    all_bounds r m = direct_bounds r (all_to (direct r) (Memᴰ.map direct m))

    pub first_bounds : (r : Ride) → r ∈ first_read v a u b → Bounds u r
    first_bounds r m =
        direct_bounds r (first_direct timetable a u b (direct r) (first_to (direct r) (Memᴰ.map direct m)))

    pub near_bounds : (r : Ride) → r ∈ near_read v a u b → Bounds u r
    near_bounds r m = all_bounds r (near_all r m)

    -- ---- so the rides to the nearest places have the result of all
    abbrev near : List Connection
    near = map direct (near_read v a u b)

    abbrev whole : List Connection
    whole = directs (net timetable) a u b

    near_whole : (c : Connection) → c ∈ near → c ∈ whole
    near_whole c m =
        let r = Memᴰ.of_map direct (near_read v a u b) m in
        Memᴰ.cast (sym r.2) (all_to (direct r.0) (Memᴰ.map direct (near_all r.0 r.1)))

    -- what is beaten is not picked
    near_picked : (c : Connection) → Picked (measure u) whole c → c ∈ near
    near_picked c p =
        let r = Memᴰ.of_map direct (all_read v a u b) (all_back c p.best.listed) in
        let e = all_near r.0 r.1 in
        elim e.2.arrive [
          | inl same ↦ Memᴰ.cast (sym (ap direct same ∙ r.2)) (Memᴰ.map direct e.1)
          | inr less ↦
              let bounds = near_bounds e.0 e.1 in
              let better : Better (cost u (direct e.0)) (cost u (direct r.0))
              = omega (arith, e.2.points, less, bounds.leaves, bounds.later) in
              let beaten = dominates_in (cost u (direct e.0)) (cost u (direct r.0)) better in
              absurd ((subst (λ c. Picked (measure u) whole c) (sym r.2) p).best.free (direct e.0)
              (near_whole (direct e.0) (Memᴰ.map direct e.1)) beaten)
        ]

    pub near_rows : rows_of u (map direct (near_read v a u b)) ≡ rows_of u (directs (net timetable) a u b)
    unfolding rows_of
    near_rows = result_kept (measure u) whole near near_whole near_picked

    pub near_none : (map direct (near_read v a u b) ≡ []) ↔ (directs (net timetable) a u b ≡ [])
    near_none = (empty_kept (measure u) whole near near_whole near_picked, λ e. go near refl e)
      where
        go : (l : List Connection) → near ≡ l → whole ≡ [] → near ≡ []
        go [] h e = h
        go (c ∷ l) h e = none (subst (λ k. c ∈ k) e (near_whole c (rw h (here refl))))

    -- and the first rides have their costs
    pub read_costs : costs (measure u) (map direct (first_read v a u b))
        ≡ costs (measure u) (map direct (near_read v a u b))
    read_costs =
        costs_covered (measure u) (first_rides timetable a u b) (map direct (first_read v a u b)) first_to first_back
        ∙ direct_costs timetable a u b
        ∙ sym (costs_covered (measure u) whole near near_whole covered)
      where
        covered : (c : Connection) → c ∈ whole → (e : Connection) × (e ∈ near) × NoWorse (cost u e) (cost u c)
        covered c m =
            let r = Memᴰ.of_map direct (all_read v a u b) (all_back c m) in
            let e = all_near r.0 r.1 in (
              direct e.0,
              Memᴰ.map direct e.1,
              subst (λ c. NoWorse (cost u (direct e.0)) (cost u c)) r.2 (nearer_cost e.0 r.0 e.2),
            )
