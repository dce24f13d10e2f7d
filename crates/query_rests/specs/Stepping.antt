-- From what is left behind one ride of a pattern to what is left behind the ride before it: for each ride that can be
-- caught by the way of changing, the latest minute of arrival for which it can, and what it costs with the change
-- before it and what is left behind it.
use Rattle.std.specs.Prelude.{◌≡◌, Bool, true, false, not, cond, ◌&&◌, List, [], ◌∷◌, map, ℕ, ◌+◌, ◌-◌, ◌≤◌, ◌<◌, T}
use Rattle.std.specs.Prelude.{leb, ltb, length, get_or}
use Rattle.std.proofs.Common.{sym, ap, ◌∙◌, inl, inr, arith, ltb→lt, nltb→le}
use mathlib.Core.List.Memᴰ
use Rattle.timetable.specs.Timetable.{Timetable, valid}
use Rattle.lists.specs.Lists.{◌∈◌, filter}
use Rattle.lists.specs.Tests.{T_true, either, reads, writes}
use Rattle.lists.specs.Members.{none, filter_in, filter_out}
use Rattle.results.specs.declared.Cost.{Cost}
use Rattle.connections.specs.Rides.{Ride}
use Rattle.connections.specs.Connections.{Net, net, Boards}
use Rattle.connections.proofs.Sound.{Sound, sound}
use Rattle.connections.proofs.Feasibility.{penalty_most_lem}
use Rattle.optimality.specs.Ways.{first_ride}
use Rattle.query_places.specs.Candidates.{near_read}
use Rattle.query_nearest.specs.Nearest.{Nearer, nearer_sooner}
use Rattle.query_rides.specs.declared.Way.{Way}
use Rattle.query_rides.specs.Ways.{cost_in, Changes, Open}
use Rattle.query_minutes.specs.Minutes.{no_points, note_all, blank}
use Rattle.query_minutes.specs.Noted.{Noted, Arrives, all_noted, LeastNoted, least_noted, length_noted}
use Rattle.query_rests.specs.Rests.{Rest, Rests, rest_earlier, begun, parted}
use Rattle.query_rests.specs.Settling.{settled_from, length_from, from_kept, from_low, from_is}
use Rattle.query_rests.specs.Spans.{Spans, Arrived, spans_blank, spans_in}

-- A ride as one who arrives before it counts it: he arrives cm minutes before it leaves, and pays cp for the change,
-- the ride, and what is left behind it.
abbrev pub caught : (cm cp : ℕ) (old : List ℕ) → Ride → Ride
caught cm cp old r =
    record {
      trip = r.trip;
      board = r.board;
      alight = r.alight;
      from = r.from;
      to = r.to;
      depart = r.depart;
      arrive = r.depart - cm;
      points = cp + r.points + get_or old r.arrive no_points;
    }

-- something is left behind it, and one can be there in time
abbrev pub catchable : (cm : ℕ) (old : List ℕ) → Ride → Bool
catchable cm old r = ltb (get_or old r.arrive no_points) no_points && leb cm r.depart

unfoldable pub catches : (cm cp : ℕ) (old : List ℕ) → List Ride → List Ride
catches cm cp old l = map (caught cm cp old) (filter (catchable cm old) l)

-- the rides from one station to the nearest places of another, as line tables tell them, by the minute from which on
-- they leave
unfoldable pub rides_to : (lines : List ℕ) (from to : ℕ) → (u : ℕ) → List Ride
rides_to lines from to u = near_read lines from u to

-- the rides caught by a way of changing, if there is one, for one who arrives at minute t or later: rides tells those
-- that leave at a minute or later
unfoldable pub caught_way : (t : ℕ) → Way → (old : List ℕ) (rides : ℕ → List Ride) → List Ride
caught_way t g old rides =
    let c = cost_in g in
    cond g.found (catches c.minutes.0 c.points.0 old (rides (t + c.minutes.0))) []

-- what is left at the station before from minute t on
unfoldable pub stepped : (t : ℕ) → Way → (old : List ℕ) (rides : ℕ → List Ride) → List ℕ
stepped t g old rides = settled_from no_points t (note_all blank (caught_way t g old rides))

-- a ride that is caught, as it was before
record Counted (t : ℕ) (g : Way) (old : List ℕ) (rides : ℕ → List Ride) (r : Ride) : Type 0 where
  found : T g.found
  ride : Ride
  listed : ride ∈ rides (t + (cost_in g).minutes.0)
  left : get_or old ride.arrive no_points < no_points
  early : (cost_in g).minutes.0 ≤ ride.depart
  is : caught (cost_in g).minutes.0 (cost_in g).points.0 old ride ≡ r

counted_out : (t : ℕ) (g : Way) (old : List ℕ) (rides : ℕ → List Ride) (r : Ride) → r ∈ caught_way t g old rides
    → Counted t g old rides r
unfolding caught_way catches
counted_out t g old rides r m =
    let o = when g.found m in
    let cm = (cost_in g).minutes.0 in
    let k = Memᴰ.of_map (caught cm (cost_in g).points.0 old) (filter (catchable cm old) (rides (t + cm))) o.1 in
    let f = filter_out (catchable cm old) (rides (t + cm)) k.1 in
    let test = f.1 in
    record {
      found = o.0;
      ride = k.0;
      listed = f.0;
      left = search reads;
      early = search reads;
      is = k.2;
    }
  where
    when : (b : Bool) {l : List Ride} → r ∈ cond b l [] → T b × (r ∈ l)
    when true m = (tt, m)
    when false m = none m

-- ---- the window is kept
module _ (t v : ℕ) (early : t ≤ v) (timely : v ≤ 2879) where
  pub settled_spans : (z : List ℕ) → Spans t v z → Spans t v (settled_from no_points t z)
  settled_spans z s =
      record {
        long = length_from no_points t z inside ∙ s.long;
        below = λ m h. from_kept no_points t z inside m h ∙ s.below m h;
        above = above;
      }
    where
      inside : t ≤ length z
      inside = omega (arith, s.long)

      above : (m : ℕ) → v < m → get_or (settled_from no_points t z) m no_points ≡ no_points
      above m h = either (ltb x no_points) some none
        where
          x : ℕ
          x = get_or (settled_from no_points t z) m no_points

          some : T (ltb x no_points) → x ≡ no_points
          some g =
              let k = from_is no_points t z inside m (ltb→lt x no_points g) in
              absurd (omega (arith, k.1, k.2, ltb→lt x no_points g, s.above k.0 (omega (arith, k.1))))

          none : T (not (ltb x no_points)) → x ≡ no_points
          none g =
              let low = from_low no_points t z inside m m (omega arith) (omega arith) in
              omega (arith, nltb→le x no_points g, low, s.above m h)

  -- Rides that can still be caught by one who arrives at minute t, and that take time, are noted for minutes from t
  -- on; and what is left behind them is left by minute v, so they are noted for minutes before it.
  module _
      (g : Way)
      (old : List ℕ)
      (spans : Spans t v old)
      (rides : ℕ → List Ride)
      (useful : (u : ℕ) (r : Ride) → r ∈ rides u → (u ≤ r.depart) × (r.depart < r.arrive))
    where
      abbrev counted : List Ride
      counted = caught_way t g old rides

      within : (r : Ride) → r ∈ counted → (t ≤ r.arrive) × (r.arrive ≤ v)
      within r m =
          let k = counted_out t g old rides r m in
          let by = (spans_in t v old spans k.ride.arrive k.left).1 in
          let u = useful (t + (cost_in g).minutes.0) k.ride k.listed in
          let at = ap (λ r. r.arrive) k.is in
          (omega (arith, u.0, at), omega (arith, u.1, by, at))

      pub noted_spans : Spans t v (note_all blank (caught_way t g old rides))
      noted_spans =
          record {
            long = length_noted counted blank ∙ blank_spans.long;
            below = λ m h. outside m (none_below m h) (blank_spans.below m h);
            above = λ m h. outside m (none_above m h) (blank_spans.above m h);
          }
        where
          blank_spans : Spans t v blank
          blank_spans = spans_blank t v

          noted : Noted no_points blank (note_all blank counted) counted
          noted =
              all_noted no_points counted blank (λ r m. omega (arith, (within r m).1, blank_spans.long))

          Note : ℕ → Type 0
          Note m = Arrives no_points counted m (get_or (note_all blank counted) m no_points)

          none_below : (m : ℕ) → m < t → ¬ Note m
          none_below m h a = omega (arith, (within a.ride a.listed).0, a.at)

          none_above : (m : ℕ) → v < m → ¬ Note m
          none_above m h a = omega (arith, (within a.ride a.listed).1, a.at)

          outside : (m : ℕ) → ¬ Note m
              → get_or blank m no_points ≡ no_points
              → get_or (note_all blank counted) m no_points ≡ no_points
          outside m far none = elim (noted.stems m) [ inl e ↦ e ∙ none | inr a ↦ absurd (far a) ]

module _ (timetable : Timetable) (okay : T (valid timetable)) (b v t : ℕ) where
  abbrev n : Net
  n = net timetable

  ok : Sound n
  ok = sound timetable okay

  -- ---- the change from station o to station x, and the rides from x to y
  module _
      (q : List ℕ)
      (o x y : ℕ)
      (g : Way)
      (known : Open n o x g)
      (rides : ℕ → List Ride)
      (told : (u : ℕ) (r : Ride) → r ∈ rides u → Boards n x u r × (r.to ≡ y))
      (near : (u : ℕ) (r : Ride) → Boards n x u r × (r.to ≡ y) → (e : Ride) × (e ∈ rides u) × Nearer e r)
      (old : List ℕ)
      (rests : Rests n b v t q y old)
    where
      abbrev those : List Ride
      those = caught_way t g old rides

      abbrev c : Cost
      c = cost_in g

      -- a ride that can be caught by the change, as it is counted
      record Caught (r : Ride) : Type 0 where
        changes : Changes n o x c
        ride : Ride
        boards : Boards n x (t + c.minutes.0) ride
        to : ride.to ≡ y
        rest : Rest n b v q y ride.arrive (get_or old ride.arrive no_points)
        minute : r.arrive + c.minutes.0 ≡ ride.depart
        pays : r.points ≡ c.points.0 + ride.points + get_or old ride.arrive no_points

      caught_out : (r : Ride) → r ∈ those → Caught r
      caught_out r m =
          let k = counted_out t g old rides r m in
          let h = told (t + c.minutes.0) k.ride k.listed in
          record {
            changes = known.sound k.found;
            ride = k.ride;
            boards = h.0;
            to = h.1;
            rest = rests.some k.ride.arrive k.left;
            minute = omega (arith, ap (λ r. r.arrive) k.is, k.early);
            pays = sym (ap (λ r. r.points) k.is);
          }

      caught_in : T g.found → (r : Ride) → r ∈ rides (t + c.minutes.0)
          → get_or old r.arrive no_points < no_points → c.minutes.0 ≤ r.depart
          → caught c.minutes.0 c.points.0 old r ∈ those
      unfolding caught_way catches
      caught_in f r m left early =
          rw (T_true g.found f)
          (Memᴰ.map (caught c.minutes.0 c.points.0 old)
          (filter_in (catchable c.minutes.0 old) m (search writes)))

      in_time_lem : (r : Ride) → r ∈ those → r.arrive < 2880
      in_time_lem r m =
          let k = caught_out r m in
          omega (arith, k.minute, ok.forward k.ride k.boards.listed, ok.bounded k.ride k.boards.listed)

      -- the least penalties of those, for who can wait
      module _ (after : List ℕ) (noted : LeastNoted no_points after those) (inside : t ≤ length after) where
        some : (m : ℕ) → get_or (settled_from no_points t after) m no_points < no_points
            → Rest n b v (x ∷ y ∷ q) o m (get_or (settled_from no_points t after) m no_points)
        some m h =
            let k = from_is no_points t after inside m h in
            let a = noted.arrives k.0 (omega (arith, k.2)) in
            let d = caught_out a.ride a.listed in
            let r = d.ride in
            let w = d.changes.change in
            let boards : Boards n w.to (m + w.minutes) r =
            record {
              listed = d.boards.listed;
              here = d.boards.here ∙ sym d.changes.to;
              timely = omega (arith, k.1, a.at, d.minute, d.changes.takes.minutes);
            }
            in
            let left = get_or old r.arrive no_points in
            let e = begun n b v q y w.to (m + w.minutes) r left boards d.to d.rest in
            record {
              change = w;
              connection = e.connection;
              listed = d.changes.listed;
              from = d.changes.from;
              to = d.changes.to;
              feasible = e.feasible;
              is = e.is;
              timely = e.timely;
              total = omega (arith, k.2, a.costs, d.pays, e.total, d.changes.takes.points);
            }

        least : (m s : ℕ) → t ≤ m → m < 2880 → Rest n b v (x ∷ y ∷ q) o m s
            → get_or (settled_from no_points t after) m no_points ≤ s
        least m s h e rest =
            let w = rest.change in
            let way = known.all w rest.listed rest.from rest.to in
            let u = m + w.minutes in
            let e = rest.connection in
            let d = parted n b v q y w.to u e rest.feasible rest.is rest.timely in
            let r = first_ride e in
            let minutes = way.1.minutes in
            let points = way.1.points in
            let most = penalty_most_lem timetable okay w.to u b e rest.feasible in
            let boards : Boards n x (t + c.minutes.0) r =
            record {
              listed = d.boards.listed;
              here = d.boards.here ∙ rest.to;
              timely = omega (arith, d.boards.timely, minutes);
            }
            in
            let k = near (t + c.minutes.0) r (boards, d.to) in
            let f = k.0 in
            let depart = k.2.depart in
            let sooner = nearer_sooner f r k.2 in
            let forward = ok.forward f (told (t + c.minutes.0) f k.1).0.listed in
            let bounded = ok.bounded r d.boards.listed in
            let behind = rest_earlier n b v q y f.arrive r.arrive d.points sooner d.rest in
            let low = rests.least f.arrive d.points (omega (arith, boards.timely)) (omega arith) behind in
            let left : get_or old f.arrive no_points < no_points = omega (arith, low, d.total, most) in
            let early : c.minutes.0 ≤ f.depart = omega (arith, d.boards.timely, minutes) in
            let in_List = caught_in way.0 f k.1 left early in
            let waits : m ≤ f.depart - c.minutes.0 = omega (arith, d.boards.timely, minutes) in
            omega (
              arith,
              from_low no_points t after inside m (f.depart - c.minutes.0) h waits,
              noted.low (caught c.minutes.0 c.points.0 old f) in_List,
              k.2.points,
              low,
              rest.total,
              d.total,
              points,
            )

        settled_rests : Rests n b v t (x ∷ y ∷ q) o (settled_from no_points t after)
        settled_rests = record { some = some; least = least }

      pub rests_before : t ≤ 2880 → Rests n b v t (x ∷ y ∷ q) o (stepped t g old rides)
      unfolding stepped
      rests_before h =
          let long = length_noted those blank ∙ (spans_blank t v).long in
          settled_rests (note_all blank those) (least_noted no_points 2880 those in_time_lem) (omega (arith, long))

  -- ---- at the target
  module _ (x : ℕ) (at : x ≡ b) (z : List ℕ) (arrived : Arrived t v z) where
    pub rests_end : Rests n b v t [] x z
    rests_end = record { some = some; least = least }
      where
        some : (m : ℕ) → get_or z m no_points < no_points → Rest n b v [] x m (get_or z m no_points)
        some m h =
            let w = spans_in t v z arrived.spans m h in
            (at, w.1, arrived.free m w.0 w.1)

        least : (m s : ℕ) → t ≤ m → m < 2880 → Rest n b v [] x m s → get_or z m no_points ≤ s
        least m s h g rest = omega (arith, arrived.free m h rest.1)
