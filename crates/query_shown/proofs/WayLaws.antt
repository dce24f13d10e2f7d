-- From ride to ride along a path: the ride to take, what is written of it, and where one is behind it.
use mathlib.Core.Path.{◌≡◌, refl, sym, ap, subst, ◌∙◌}
use mathlib.Core.Bool.{Bool, true, false, not, true≢false}
use mathlib.Core.Logic.{◌⊎◌, inl, inr}
use mathlib.Core.List.{List, [], ◌∷◌, ◌++◌}
use Prim.Native.Nat.{ℕ, suc, ◌+◌, ◌-◌, ◌*◌, ◌≤◌, ◌<◌}
use native.Mathlib.Omega.{arith}
use lib.ListN.{length, get_or, set, take, drop, length-append, length-take}
use lib.Seq.{slice, slice_empty, slice-cons, take_at}
use Rattle.words.specs.Put.{put}
use Rattle.timetable.specs.Timetable.{Timetable}
use Rattle.timetable.specs.Words.{station_count, timetable_of, is_timetable}
use Rattle.lists.specs.Lists.{◌∈◌}
use Rattle.results.specs.declared.Points.{Points}
use Rattle.connections.specs.Rides.{Ride}
use Rattle.connections.specs.Connections.{Net, net, Connection, Boards}
use Rattle.connections.proofs.Sound.{sound}
use Rattle.connections.proofs.Feasibility.{takes_time}
use Rattle.query_places.specs.Candidates.{near_read}
use Rattle.query_nearest.specs.Nearest.{Nearer}
use Rattle.optimality.specs.Greedy.{ride_numbers, Changing, Continues, Fits, fits_starts}
use Rattle.query_rides.specs.declared.Ride.{Ride as RideStruct}
use Rattle.query_rides.specs.declared.Way.{Way}
use Rattle.query_rides.specs.Ridden.{near_rides, rides_near}
use Rattle.query_rides.specs.Ways.{way_between, open_way}
use Rattle.query_shown.specs.declared.At.{At}
use Rattle.query_shown.specs.declared.Next.{Next}
use Rattle.query_rests.specs.Given.{Given}
use Rattle.query_shown.specs.Showing.{Fitting, FoundAt}
use Rattle.query_rests.specs.Rests.{RestsAt}
use Rattle.query_shown.specs.Prices.{front_price, Fronts, fronts_start, fronts_change}
use Rattle.query_shown.specs.Heads.{no_ride, head_of, Chosen, head_cases}
use Rattle.query_shown.specs.Going.{Left, Going, goes, begins}
use Rattle.query_rests.specs.Turns.{tells_of}
use Rattle.query_shown.specs.OnTheWay.{boarded_at, Standing, FrontAt, price_at, Taken, Nothing, Headed, Under}
use Rattle.query_shown.specs.OnTheWay.{Moved, Stopped, Gone, Rode}
use Rattle.query_rests.proofs.PatternLaws.{is_valid, station_inside}

-- ---- one ride
take_three : (i : ℕ) (ws old : List ℕ) → length ws ≡ 3 → 3 * i + 3 ≤ length old
    → take (3 * (i + 1)) (put (3 * i) ws old) ≡ take (3 * i) old ++ ws
unfolding put
take_three i ws old e h =
    let long : length (take (3 * i) old ++ ws) ≡ 3 * (i + 1) = simp (length-append, length-take) (omega arith) in
    take_at (take (3 * i) old ++ ws) (drop (3 * i + length ws) old) (3 * (i + 1)) long

pub moved : (path : List ℕ) (i left price to : ℕ) (s : RideStruct) (one : ℕ) (paid : Points) (old new : List ℕ)
    → new ≡ put (3 * i) (s.trip ∷ s.board ∷ s.alight ∷ []) old
    → to ≡ get_or path (2 * i) 0
    → one ≡ left - price
    → paid.0 ≡ one - s.points.0
    → Moved path i left price s old new (record { alighted = to; arrive = s.arrive; left = paid })
moved path i left price to s one paid old new e f is_one is-paid =
    record { wrote = e; alighted = f; arrive = refl; left_then = omega (arith, is-paid, is_one) }

-- ---- along the path

-- the first i rides are written, as Under says
pub record Riding (w lines path : List ℕ) (r v a m p d i : ℕ) (rides : List ℕ) (at : At) : Type 0 where
  pub given : Given w lines path r v
  pub some : 1 ≤ i
  pub past : i ≤ r
  pub rooms : length rides ≡ 192
  pub under : Under w path r v a m p d i rides at

module _ (w lines path : List ℕ) (r v : ℕ) (given : Given w lines path r v) where
  accepted : is_timetable w ≡ true
  accepted = given.accepted

  abbrev t : Timetable
  t = timetable_of w

  abbrev n : Net
  n = net t

  abbrev b : ℕ
  b = get_or path (2 * r - 2) 0

  -- a station that the path names
  at_first : (k : ℕ) → k < 2 * r - 1 → 1 ≤ get_or path k 0
  at_first k h = (given.listed.at k h).0

  at_most : (k : ℕ) → k < 2 * r - 1 → get_or path k 0 ≤ station_count w
  at_most k h = (given.listed.at k h).1

  slice_more : (k : ℕ) → k < 2 * r - 1 → slice k (2 * r - 1) path ≡ get_or path k 0 ∷ slice (suc k) (2 * r - 1) path
  slice_more k h = slice-cons k (2 * r - 1) path 0 h given.long

  -- ---- the ride to take
  module _ (i minute : ℕ) (inside : i < r) (at : At) where
    abbrev o : ℕ
    o = at.alighted

    abbrev y : ℕ
    y = get_or path (2 * i) 0

    abbrev q : List ℕ
    q = slice (2 * i + 1) (2 * r - 1) path

    -- where it is boarded is listed
    boards_some : (first : Bool) → Standing w minute first i at → 1 ≤ boarded_at path first i o
    unfolding boarded_at
    boards_some true s = s.least
    boards_some false s = at_first (2 * i - 1) (omega (arith, s.rode))

    boards_few : (first : Bool) → Standing w minute first i at → boarded_at path first i o ≤ station_count w
    unfolding boarded_at
    boards_few true s = s.most
    boards_few false s = at_most (2 * i - 1) (omega (arith, s.rode))

    fronts : (first : Bool) → Standing w minute first i at
        → Fronts n (FrontAt w path r v first i at) (boarded_at path first i o) at.arrive
        (price_at w path r v first i at)
    unfolding boarded_at
    fronts true s = fronts_start n o at.arrive (way_between w o o)
    fronts false s =
        let x = get_or path (2 * i - 1) 0 in
        fronts_change t (is_valid w accepted) o at.arrive x (way_between w o x)
        (open_way w accepted o x s.least s.most)

    pub head_taken : (first : Bool) → Standing w minute first i at
        → (from : ℕ) → from ≡ boarded_at path first i at.alighted
        → (g : Way) → g ≡ way_between w at.alighted from
        → (z : List ℕ) → RestsAt w path r v minute i z
        → (to : ℕ) → to ≡ get_or path (2 * i) 0
        → (s : RideStruct)
        → s
        ≡ tells_of (head_of first (front_price first g at.arrive) z at.left.0 (near_read lines from at.arrive to))
        → Headed w path r v first i at s
    unfolding RestsAt Headed
    head_taken first stands from is-from g is-g z rests to is-to s is =
        go
        (head_cases t (is_valid w accepted) b v minute q y x e p stands.later Front price (fronts first stands) rides
        told near z rests first)
      where
        x : ℕ
        x = boarded_at path first i o

        e : ℕ
        e = at.arrive

        p : ℕ
        p = at.left.0

        Front : (r : Ride) (k : ℕ) → Type 0
        Front = FrontAt w path r v first i at

        price : ℕ → ℕ
        price = price_at w path r v first i at

        rides : List Ride
        rides = near_read lines x e y

        from_inside : x ≤ length t.stations
        from_inside = station_inside w accepted x (boards_few first stands)

        told : (g : Ride) → g ∈ rides → Boards n x e g × (g.to ≡ y)
        told = near_rides w lines x y e accepted given.own (boards_some first stands) from_inside

        near : (g : Ride) → Boards n x e g × (g.to ≡ y) → (e : Ride) × (e ∈ rides) × Nearer e g
        near = rides_near w lines x y e accepted given.own (boards_some first stands) from_inside

        one : Ride
        one = head_of first price z p rides

        tells : s ≡ tells_of one
        tells =
            is
            ∙ ap (λ g. tells_of (head_of first (front_price first g e) z p (near_read lines from e to))) is-g
            ∙ (λ j.
            tells_of
            (head_of first (front_price first (way_between w o (is-from j)) e) z p
            (near_read lines (is-from j) e (is-to j))))

        go : ((one ≡ no_ride) × ((c : Connection) → ¬ Continues n b v Front (y ∷ q) p c))
            ⊎ Chosen t b v Front first e y q p one (price one.depart)
            → Nothing w path r v first i at s ⊎ Taken w path r v first i at s
        go (inl h) = inl (record { trip = ap (λ s. s.trip) (tells ∙ ap tells_of h.0); none = h.1 })
        go (inr c) = inr (record { ride = one; tells = tells; chosen = c })

  -- ---- ride i is written
  module _ (i : ℕ) (inside : i < r) where
    -- what goes on behind a ride goes on where one is
    module _
        (a m p₀ d : ℕ)
        (first : Bool)
        (at : At)
        (s : RideStruct)
        (taken : Taken w path r v first i at s)
        (old new : List ℕ)
        (next : At)
        (move : Moved path i at.left.0 (price_at w path r v first i at s.depart) s old new next)
        (room : 3 * i + 3 ≤ length old)
      where
        abbrev ride : Ride
        ride = taken.ride

        abbrev k : ℕ
        k = price_at w path r v first i at ride.depart

        abbrev left : ℕ
        left = at.left.0

        written : take (3 * i) old ++ ride_numbers ride ≡ take (3 * (i + 1)) new
        written =
            sym
            (ap (take (3 * (i + 1))) move.wrote
            ∙ take_three i (s.trip ∷ s.board ∷ s.alight ∷ []) old refl room
            ∙ ap (λ s. take (3 * i) old ++ (s.trip ∷ s.board ∷ s.alight ∷ [])) taken.tells)

        minute : ride.arrive ≡ next.arrive
        minute = sym (move.arrive ∙ ap (λ s. s.arrive) taken.tells)

        points : left - (k + ride.points) ≡ next.left.0
        points =
            sym
            (move.left_then
            ∙ ap (λ s. left - (price_at w path r v first i at s.depart + s.points.0)) taken.tells)

        after : 2 * i + 1 ≡ 2 * (i + 1) - 1
        after = omega arith

        moves : (whole : List ℕ)
            → Going t b v whole a m p₀ (take (3 * i) old ++ ride_numbers ride) d (slice (2 * i + 1) (2 * r - 1) path)
            (get_or path (2 * i) 0) ride.arrive (left - (k + ride.points))
            → Going t b v whole a m p₀ (take (3 * (i + 1)) new) d (slice (2 * (i + 1) - 1) (2 * r - 1) path)
            next.alighted next.arrive next.left.0
        moves whole g =
            subst (λ j. Goes (take (3 * (i + 1)) new) j next.alighted next.arrive next.left.0) after
            (subst (λ l. Goes l (2 * i + 1) next.alighted next.arrive next.left.0) written
            (subst (λ y. Goes done (2 * i + 1) y next.arrive next.left.0) (sym move.alighted)
            (subst (λ u. Goes done (2 * i + 1) (get_or path (2 * i) 0) u next.left.0) minute
            (subst (λ p. Goes done (2 * i + 1) (get_or path (2 * i) 0) ride.arrive p) points g))))
          where
            done : List ℕ
            done = take (3 * i) old ++ ride_numbers ride

            Goes : List ℕ → (j y u p : ℕ) → Type 0
            Goes l j y u p = Going t b v whole a m p₀ l d (slice j (2 * r - 1) path) y u p

        -- where one is behind it
        under_more : m ≤ at.arrive
            → Going t b v (take (2 * r - 1) path) a m p₀ (take (3 * i) old ++ ride_numbers ride) d
            (slice (2 * i + 1) (2 * r - 1) path) (get_or path (2 * i) 0) ride.arrive (left - (k + ride.points))
            → Under w path r v a m p₀ d (i + 1) new next
        under_more later g =
            let ok = sound t (is_valid w accepted) in
            let listed = taken.chosen.listed in
            record {
              least = omega (arith, move.alighted, at_first (2 * i) (omega arith));
              most = omega (arith, move.alighted, at_most (2 * i) (omega arith));
              later = omega (arith, minute, taken.chosen.timely, ok.forward ride listed);
              soon = omega (arith, minute, ok.bounded ride listed);
              going = moves (take (2 * r - 1) path) g;
            }

    -- a ride more
    under_on : (a m p₀ d : ℕ) (at : At) (step : Next) (old new : List ℕ) → 1 ≤ i → length old ≡ 192
        → Under w path r v a m p₀ d i old at
        → Rode w path r v false i at old new step
        → Under w path r v a m p₀ d (i + 1) new step.at
    unfolding Rode
    under_on a m p₀ d at step old new some rooms under rode = go rode
      where
        x : ℕ
        x = get_or path (2 * i - 1) 0

        y : ℕ
        y = get_or path (2 * i) 0

        q : List ℕ
        q = slice (2 * i + 1) (2 * r - 1) path

        p : ℕ
        p = at.left.0

        Front : (r : Ride) (k : ℕ) → Type 0
        Front = Changing n at.alighted at.arrive x

        on : slice (2 * i - 1) (2 * r - 1) path ≡ x ∷ y ∷ q
        on =
            let two : suc (2 * i - 1) ≡ 2 * i = omega arith in
            let three : suc (2 * i) ≡ 2 * i + 1 = omega arith in
            slice_more (2 * i - 1) (omega arith)
            ∙ ap (λ k. x ∷ slice k (2 * r - 1) path) two
            ∙ ap (λ l. x ∷ l) (slice_more (2 * i) (omega arith))
            ∙ ap (λ k. x ∷ y ∷ slice k (2 * r - 1) path) three

        here : Left t b v (take (2 * r - 1) path) a m p₀ Front (take (3 * i) old) d (y ∷ q) p
        here =
            subst
            (λ q. Going t b v (take (2 * r - 1) path) a m p₀ (take (3 * i) old) d q at.alighted at.arrive p)
            on
            under.going

        go : Stopped w path r v false i at step ⊎ Gone w path r v false i at old new step
            → Under w path r v a m p₀ d (i + 1) new step.at
        go (inl h) = absurd (h.none here.some here.fits)
        go (inr h) =
            let ride = h.taken.ride in
            let k = price_at w path r v false i at ride.depart in
            under_more a m p₀ d false at h.ride h.taken old new step.at h.moved (omega (arith, given.few))
            under.later
            (goes t (is_valid w accepted) b v Front at.arrive y p ride k (take (2 * r - 1) path) a m p₀ q
            (take (3 * i) old) d here h.taken.chosen)

  -- ---- nobody can arrive before the query's minute
  pub none_late : (a m p : ℕ) (rides : List ℕ) → v < m
      → FoundAt w path r v a m p (record { found = false; depart = 0 }) rides
  unfolding FoundAt
  none_late a m p rides late e f =
      omega (arith, takes_time n (sound t (is_valid w accepted)) a m b e f.feasible, f.timely)

  -- ---- the first ride
  module _ (a m : ℕ) (p : Points) (step : Next) where
    abbrev start : At
    start = record { alighted = a; arrive = m; left = p }

    on_first : 1 ≤ r → slice 0 (2 * r - 1) path ≡ get_or path 0 0 ∷ slice 1 (2 * r - 1) path
    on_first some = slice_more 0 (omega arith)

    under_first : (old new : List ℕ) → 1 ≤ r → length old ≡ 192
        → Rode w path r v true 0 (record { alighted = a; arrive = m; left = p }) old new step
        → not step.found ≡ false
        → Under w path r v a m p.0 step.depart 1 new step.at
    unfolding Rode
    under_first old new some rooms rode found = go rode
      where
        go : Stopped w path r v true 0 start step ⊎ Gone w path r v true 0 start old new step
            → Under w path r v a m p.0 step.depart 1 new step.at
        go (inl h) = absurd (true≢false (sym (ap not h.found) ∙ found))
        go (inr h) =
            let ride = h.taken.ride in
            let y = get_or path 0 0 in
            let q = slice 1 (2 * r - 1) path in
            let k = price_at w path r v true 0 start ride.depart in
            let first = begins t (is_valid w accepted) b v a m y p.0 ride k q h.taken.chosen in
            let leaves = h.departs ∙ ap (λ s. s.depart) h.taken.tells in
            subst
            (λ d. Under w path r v a m p.0 d 1 new step.at)
            (sym leaves)
            (under_more 0 (omega arith) a m p.0 ride.depart true start h.ride h.taken old new step.at
            h.moved (omega arith) (omega arith)
            (subst
            (λ l.
            Going t b v l a m p.0 (ride_numbers ride) ride.depart q y ride.arrive
            (p.0 - (k + ride.points)))
            (sym (on_first some))
            first))

    pub starts : (old new : List ℕ) → 1 ≤ r → length old ≡ 192 → length new ≡ length old
        → Rode w path r v true 0 (record { alighted = a; arrive = m; left = p }) old new step
        → not step.found ≡ false
        → Riding w lines path r v a m p.0 step.depart 1 new step.at
    starts old new some rooms same rode found =
        record {
          given = given;
          some = omega arith;
          past = some;
          rooms = same ∙ rooms;
          under = under_first old new some rooms rode found;
        }

    pub none_there : (old new : List ℕ) → 1 ≤ r
        → Rode w path r v true 0 (record { alighted = a; arrive = m; left = p }) old new step
        → not step.found ≡ true
        → FoundAt w path r v a m p.0 (record { found = false; depart = 0 }) new
    unfolding Rode FoundAt
    none_there old new some rode e = go rode
      where
        go : Stopped w path r v true 0 start step ⊎ Gone w path r v true 0 start old new step
            → (e : Connection) → ¬ Fitting t b v (take (2 * r - 1) path) a m p.0 e
        go (inl h) =
            let y = get_or path 0 0 in
            let q = slice 1 (2 * r - 1) path in
            λ c f.
            h.none c
            (fits_starts n b v (y ∷ q) a m p.0 c (subst (λ q. Fits n b v q a m p.0 c) (on_first some) f))
        go (inr h) = absurd (true≢false (sym e ∙ ap not h.found))

module _
    (w lines path : List ℕ)
    (r v a m p d i : ℕ)
    (rides : List ℕ)
    (at : At)
    (riding : Riding w lines path r v a m p d i rides at)
  where
    pub stands_there : Standing w m false i at
    stands_there =
        let under = riding.under in
        record {
          least = under.least;
          most = under.most;
          later = under.later;
          soon = under.soon;
          rode = riding.some;
        }

    -- a ride more
    pub rides_on : (step : Next) (new : List ℕ) → i < r → Rode w path r v false i at rides new step
        → length new ≡ length rides
        → Riding w lines path r v a m p d (i + 1) new step.at
    rides_on step new inside rode same =
        let rooms = riding.rooms in
        record {
          given = riding.given;
          some = omega arith;
          past = omega arith;
          rooms = same ∙ rooms;
          under =
              under_on w lines path r v riding.given i inside a m p d at step rides new riding.some rooms
              riding.under rode;
        }

    -- with no ride left it is done
    pub arrives : r ≤ i → FoundAt w path r v a m p (record { found = true; depart = d }) rides
    unfolding FoundAt
    arrives h =
        let end : i ≡ r = omega (arith, riding.past) in
        let going = riding.under.going in
        subst (Goes r) (slice_empty (2 * r - 1) path)
        (subst (λ i. Goes i (slice (2 * i - 1) (2 * r - 1) path)) end going)
      where
        Goes : (i : ℕ) (q : List ℕ) → Type 0
        Goes i q =
            Going (timetable_of w) (get_or path (2 * r - 2) 0) v (take (2 * r - 1) path) a m p (take (3 * i) rides) d q
            at.alighted at.arrive at.left.0

-- the same after the first ride, for as many points as one began with: they are no longer at hand
pub record Onward
    (w lines path : List ℕ)
    (r v a m d : ℕ)
    (begun : List ℕ)
    (start : At)
    (i : ℕ)
    (rides : List ℕ)
    (at : At)
    : Type 0
  where
    pub rooms : length rides ≡ 192
    pub points : ℕ
    pub began : Riding w lines path r v a m points d 1 begun start
    pub onward : (p : ℕ) → Riding w lines path r v a m p d 1 begun start → Riding w lines path r v a m p d i rides at

pub onward_first : {w lines path : List ℕ} {r v a m d : ℕ} {begun : List ℕ} {start : At} (p : Points)
    → Riding w lines path r v a m p.0 d 1 begun start
    → Onward w lines path r v a m d begun start 1 begun start
onward_first p k = record { rooms = k.rooms; points = p.0; began = k; onward = λ p k. k }

module _
    (w lines path : List ℕ)
    (r v : ℕ)
    (given : Given w lines path r v)
    (a m : ℕ)
    (p : Points)
    (step : Next)
    (old begun : List ℕ)
    (some : 1 ≤ r)
    (rooms : length old ≡ 192)
    (same : length begun ≡ length old)
    (rode : Rode w path r v true 0 (record { alighted = a; arrive = m; left = p }) old begun step)
    (found : not step.found ≡ false)
  where
    first : Riding w lines path r v a m p.0 step.depart 1 begun step.at
    first = starts w lines path r v given a m p step old begun some rooms same rode found

    pub onward_arrives : (i : ℕ) (rides : List ℕ) (at : At)
        → Onward w lines path r v a m step.depart begun step.at i rides at
        → r ≤ i
        → FoundAt w path r v a m p.0 (record { found = true; depart = step.depart }) rides
    onward_arrives i rides at k h =
        arrives w lines path r v a m p.0 step.depart i rides at (k.onward p.0 first) h

module _
    (w lines path : List ℕ)
    (r v a m d : ℕ)
    (begun : List ℕ)
    (start : At)
    (i : ℕ)
    (rides : List ℕ)
    (at : At)
    (k : Onward w lines path r v a m d begun start i rides at)
  where
    pub onward_stands : Standing w m false i at
    onward_stands = stands_there w lines path r v a m k.points d i rides at (k.onward k.points k.began)

    pub onward_more : (step : Next) (new : List ℕ) → i < r → Rode w path r v false i at rides new step
        → length new ≡ length rides
        → Onward w lines path r v a m d begun start (i + 1) new step.at
    onward_more step new inside rode same =
        record {
          rooms = same ∙ k.rooms;
          points = k.points;
          began = k.began;
          onward = λ p z. rides_on w lines path r v a m p d i rides at (k.onward p z) step new inside rode same;
        }

-- ---- what became of a ride
module _
    (w path : List ℕ)
    (r v : ℕ)
    (first : Bool)
    (i : ℕ)
    (at : At)
    (s : RideStruct)
    (headed : Headed w path r v first i at s)
  where
    pub rode_none : (old new : List ℕ) → s.trip ≡ 65536
        → Rode w path r v first i at old new (record { found = false; depart = 0; at = at })
    unfolding Rode Headed
    rode_none old new e = go headed
      where
        go : Nothing w path r v first i at s ⊎ Taken w path r v first i at s
            → Stopped w path r v first i at (record { found = false; depart = 0; at = at })
            ⊎ Gone w path r v first i at old new (record { found = false; depart = 0; at = at })
        go (inl h) = inl (record { found = refl; none = h.none })
        go (inr h) = absurd (omega (arith, e, ap (λ s. s.trip) h.tells, h.chosen.few))

    pub rode_one : (from : ℕ) → from ≡ boarded_at path first i at.alighted → (g : Way)
        → g ≡ way_between w at.alighted from → (price : ℕ) → price ≡ front_price first g at.arrive s.depart
        → (old new : List ℕ) (next : At) → ¬ (s.trip ≡ 65536)
        → Moved path i at.left.0 price s old new next
        → Rode w path r v first i at old new (record { found = true; depart = s.depart; at = next })
    unfolding Rode Headed
    rode_one from is-from g is-g price is old new next e move = go headed
      where
        paid : price ≡ price_at w path r v first i at s.depart
        paid =
            is
            ∙ ap (λ g. front_price first g at.arrive s.depart) (is-g ∙ ap (way_between w at.alighted) is-from)

        go : Nothing w path r v first i at s ⊎ Taken w path r v first i at s
            → Stopped w path r v first i at (record { found = true; depart = s.depart; at = next })
            ⊎ Gone w path r v first i at old new (record { found = true; depart = s.depart; at = next })
        go (inl h) = absurd (e h.trip)
        go (inr h) =
            inr (record {
              found = refl;
              ride = s;
              departs = refl;
              taken = h;
              moved = subst (λ k. Moved path i at.left.0 k s old new next) paid move;
            })

-- the ride is the one that was chosen, with what is left at hand
module _
    (w lines path : List ℕ)
    (r v i minute : ℕ)
    (given : Given w lines path r v)
    (inside : i < r)
    (first : Bool)
    (at : At)
    (stands : Standing w minute first i at)
    (z : List ℕ)
    (rests : RestsAt w path r v minute i z)
    (from : ℕ)
    (is-from : from ≡ boarded_at path first i at.alighted)
    (g : Way)
    (is-g : g ≡ way_between w at.alighted from)
    (to : ℕ)
    (is-to : to ≡ get_or path (2 * i) 0)
    (s : RideStruct)
    (is :
    s
    ≡ tells_of (head_of first (front_price first g at.arrive) z at.left.0 (near_read lines from at.arrive to)))
  where
    headed : Headed w path r v first i at s
    headed = head_taken w lines path r v given i minute inside at first stands from is-from g is-g z rests to is-to s is

    pub chosen_none : (old new : List ℕ) → s.trip ≡ 65536
        → Rode w path r v first i at old new (record { found = false; depart = 0; at = at })
    chosen_none = rode_none w path r v first i at s headed

    pub chosen_one : (price : ℕ) → price ≡ front_price first g at.arrive s.depart
        → (old new : List ℕ) (next : At) → ¬ (s.trip ≡ 65536)
        → Moved path i at.left.0 price s old new next
        → Rode w path r v first i at old new (record { found = true; depart = s.depart; at = next })
    chosen_one = rode_one w path r v first i at s headed from is-from g is-g

pub starts_there : (w : List ℕ) (source minute v : ℕ) (p : Points) → 1 ≤ source → source ≤ station_count w
    → minute ≤ v → v ≤ 2879
    → Standing w minute true 0 (record { alighted = source; arrive = minute; left = p })
starts_there w source minute v p h g early late =
    record { least = h; most = g; later = omega arith; soon = omega arith; rode = omega arith }

-- ---- what the code asks for on the way
module _ (w lines path : List ℕ) (r v i : ℕ) (given : Given w lines path r v) (inside : i < r) where
  pub next_inside : 2 * i < length path
  next_inside = omega (arith, given.long)

  pub next_few : i < 64
  next_few = omega (arith, given.few)

  pub next_room : (words : ℕ) → words ≡ 192 → 3 * i + 3 ≤ words
  next_room words e = omega (arith, given.few)
