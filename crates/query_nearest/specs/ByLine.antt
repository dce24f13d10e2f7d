-- The rides that the code reads, by their lines: each is on a trip of a line, between two of its places, and which
-- trips there are is told by the first that leaves in time.
use Rattle.std.specs.Prelude.{◌≡◌, refl, Bool, true, false, cond, ℕ, ◌+◌, ◌-◌, ◌≤◌, ◌<◌, ltb, length, get_or}
use Rattle.std.proofs.Common.{sym, ◌∙◌, ltb→lt, lt→ltb}
use Rattle.std.proofs.Math.Path.{ap, subst}
use mathlib.Core.List.Memᴰ
use mathlib.Core.List.Memᴰ.{head as here}
use mathlib.Core.List.{List, [], ◌∷◌, map}
use mathlib.Core.List.Memᴰ.{tail as further}
use native.Mathlib.Omega.{arith}
use Rattle.std.proofs.Math.Decide.{dec_le}
use borrow.Author.Tests.{le-leb, lt-leb}
use Rattle.std.proofs.Math.Dec.{T}
use Rattle.timetable.specs.Timetable.{Trip, Timetable, valid}
use Rattle.lists.specs.Lists.{◌∈◌, range}
use Rattle.lists.specs.Tests.{T_left, T_right, T_both}
use Rattle.lists.specs.Members.{none, cons_cases, concat_map_in, concat_map_out, range_in, range_out}
use Rattle.connections.specs.Rides.{Ride, no_stop, ride_in, may_board, may_alight}
use Rattle.lines.specs.Lines.{lines, course, station_on}
use Rattle.lines.specs.DirectRides.{in_time}
use Rattle.lines.proofs.DirectLaws.{Pair}
use Rattle.lines.proofs.Ordered.{Line as GoodLine, lines_good}
use Rattle.lines_tables.specs.Spelled.{within}
use Rattle.lines_lookup.specs.Lookup.{Line, line_at, boards_at, alights_at, points_between, list_of}
use Rattle.lines_lookup.specs.First.{first_trip}
use Rattle.lines_lookup.specs.Calls.{Call, pairs_of, calls_of, after}
use Rattle.lines_lookup.specs.Told.{LineTold, Told, ride_difference}
use Rattle.lines_lookup.specs.Marked.{station_few, boards_told, alights_told}
use Rattle.lines_lookup.specs.Rising.{Later, Rising, after_out, after_in, after_rising, after_again}
use Rattle.lines_lookup.specs.Met.{Met, calls_in_lem, calls_out, calls_rise}
use Rattle.query_places.specs.Candidates.{Reach, opens, reach_of, nearest, Leg, leg_of, legs, ride_on, trips_to}
use Rattle.query_places.specs.Candidates.{first_leg}
use Rattle.query_places.specs.Candidates.{near_leg, all_leg, first_on, all_on, first_read, near_read, all_read}
use Rattle.query_nearest.specs.Reached.{Left, nearest_in, reach_in, reach_out, reach_nearest, timely_in}
use Rattle.query_nearest.specs.Reached.{timely_out, ride_same}

-- what is in a list that stands under a test
under_out : {A : Type 0} {x : A} (b : Bool) (l : List A) → x ∈ cond b l [] → T b × (x ∈ l)
under_out true l m = (tt, m)
under_out false l m = none m

under_in : {A : Type 0} {x : A} (b : Bool) (l : List A) → T b → x ∈ l → x ∈ cond b l []
under_in true l t m = m
under_in false l t m = absurd t

-- where the calls to board at rise, nothing that was passed over is missed
legs_again : (v : List ℕ) (c : Call) (ds es : List Call) → ((e : Call) → e ∈ es → Later c e)
    → map (λ e. leg_of v e (after e (after c ds))) es ≡ map (λ e. leg_of v e (after e ds)) es
legs_again v c ds [] h = refl
legs_again v c ds (e ∷ es) h =
    let this = after_again c e (h e (here refl)) ds in
    let rest = legs_again v c ds es (λ d m. h d (further m)) in
    λ i. leg_of v e (this i) ∷ rest i

legs_are : (v : List ℕ) (cs ds : List Call) → Rising cs → legs v cs ds ≡ map (λ c. leg_of v c (after c ds)) cs
unfolding legs
legs_are v [] ds r = refl
legs_are v (c ∷ cs) ds r =
    ap (λ l. leg_of v c (after c ds) ∷ l) (legs_are v cs (after c ds) r.1 ∙ legs_again v c ds cs r.0)

-- where there are no calls to alight at, there is no place to ride to
legs_none : (v : List ℕ) (cs : List Call) (g : Leg) → g ∈ legs v cs [] → g.reach ≡ []
unfolding legs after reach_of
legs_none v [] g m = none m
legs_none v (c ∷ cs) g m = cons_cases m (λ e. ap (λ g. g.reach) e) (legs_none v cs g)

-- the trips of the line at place i
abbrev pub line_of : List Trip → (i : ℕ) → List ℕ
line_of t i = get_or (lines t) i []

-- the ride on its trip at place j
abbrev pub ride_by : Timetable → (i x y j : ℕ) → Ride
ride_by t i x y j = ride_in t (get_or (line_of t.trips i) j 0) x y

-- there is such a ride from a to b
pub record By (t : Timetable) (a b i x y j : ℕ) : Type 0 where
  pub listed : i < length (lines t.trips)
  pub pair : Pair t a b (line_of t.trips i) x y
  pub runs : j < length (line_of t.trips i)

-- and it is r
pub record Read (t : Timetable) (a b : ℕ) (r : Ride) : Type 0 where
  pub i : ℕ
  pub x : ℕ
  pub y : ℕ
  pub j : ℕ
  pub by : By t a b i x y j
  pub is : ride_by t i x y j ≡ r

module _ (t : List Trip) (i : ℕ) (listed : i < length (lines t)) where
  pub line_listed : line_of t i ∈ lines t
  line_listed = within (lines t) i [] listed

  pub line_good : GoodLine t (line_of t i)
  line_good = lines_good t (line_of t i) line_listed

pub from_inside : (t : Timetable) (a b i x y j : ℕ) → By t a b i x y j
    → x < length (course t.trips (line_of t.trips i))
from_inside t a b i x y j k = omega (arith, k.pair.later, k.pair.inside)

module _ (v : List ℕ) (timetable : Timetable) (told : Told v timetable) (okay : valid timetable ≡ true) where
  abbrev n : ℕ
  n = length timetable.stations

  abbrev t : List Trip
  t = timetable.trips

  -- the line as the code knows it
  abbrev line : ℕ → Line
  line i = line_at v i

  abbrev first : (i x u : ℕ) → ℕ
  first i x u = first_trip v (line i) x u

  -- what is open by the words is open by the timetable
  module _ (i : ℕ) (h : i < length (lines t)) (x y : ℕ) (x-in : x < length (course t (line_of t i)))
      (y-in : y < length (course t (line_of t i))) where
    boards_same : boards_at v (line i) x ≡ may_board (get_or (course t (line_of t i)) x no_stop)
    boards_same = boards_told timetable okay i h x x-in v told

    alights_same : alights_at v (line i) y ≡ may_alight (get_or (course t (line_of t i)) y no_stop)
    alights_same = alights_told timetable okay i h y y-in v told

    open_boards : T (opens v (line i) x y) → T (may_board (get_or (course t (line_of t i)) x no_stop))
    unfolding opens
    open_boards w = subst T boards_same (T_left (boards_at v (line i) x) (alights_at v (line i) y) w)

    open_alights : T (opens v (line i) x y) → T (may_alight (get_or (course t (line_of t i)) y no_stop))
    unfolding opens
    open_alights w = subst T alights_same (T_right (boards_at v (line i) x) (alights_at v (line i) y) w)

    opens_both : T (may_board (get_or (course t (line_of t i)) x no_stop))
        → T (may_alight (get_or (course t (line_of t i)) y no_stop)) → T (opens v (line i) x y)
    unfolding opens
    opens_both b a =
        T_both (boards_at v (line i) x) (alights_at v (line i) y) (subst T (sym boards_same) b)
        (subst T (sym alights_same) a)

  -- ---- rides are read to listed stations only
  no_calls : (b : ℕ) → ¬ ((1 ≤ b) × (b ≤ n)) → calls_of v b ≡ []
  unfolding calls_of list_of pairs_of
  no_calls b h =
      elim (dec_le 1 b) [
        | yes p ↦
            rw (le-leb 1 b p, lt-leb b (get_or v 0 0) (omega (arith, told.stations, past p)))
        | no p ↦ rw (lt-leb 1 b (omega arith))
      ]
    where
      past : 1 ≤ b → n < b
      past p = elim (dec_le b n) [ yes q ↦ absurd (h (p, q)) | no q ↦ omega arith ]

  module _ (a u b : ℕ) (r : Ride) where
    to_listed : (calls_of v b ≡ [] → ⊥) → (1 ≤ b) × (b ≤ n)
    to_listed nothing =
        elim (dec_le 1 b) [
          | yes p ↦
              elim (dec_le b n) [
                | yes q ↦ (p, q)
                | no q ↦ absurd (nothing (no_calls b (λ k. q k.1)))
              ]
          | no p ↦ absurd (nothing (no_calls b (λ k. p k.0)))
        ]

    pub first_listed : r ∈ first_read v a u b → (1 ≤ b) × (b ≤ n)
    unfolding first_read nearest
    first_listed m = to_listed nothing
      where
        nothing : calls_of v b ≡ [] → ⊥
        nothing e =
            let g = concat_map_out (first_leg v u) (legs v (calls_of v a) (calls_of v b)) m in
            let empty = legs_none v (calls_of v a) g.0 (subst (λ ds. g.0 ∈ legs v (calls_of v a) ds) e g.1) in
            let l = line g.0.call.line in
            let x = g.0.call.place in
            let f = first_trip v l x u in
            let on = subst (λ rs. r ∈ first_on v u l x (nearest rs)) empty g.2 in
            none (under_out (ltb f l.trips) (map (ride_on v l x f) []) on).1

    pub near_listed : r ∈ near_read v a u b → (1 ≤ b) × (b ≤ n)
    unfolding near_read nearest
    near_listed m = to_listed nothing
      where
        nothing : calls_of v b ≡ [] → ⊥
        nothing e =
            let g = concat_map_out (near_leg v u) (legs v (calls_of v a) (calls_of v b)) m in
            let empty = legs_none v (calls_of v a) g.0 (subst (λ ds. g.0 ∈ legs v (calls_of v a) ds) e g.1) in
            let l = line g.0.call.line in
            none (subst (λ rs. r ∈ all_on v u l g.0.call.place (nearest rs)) empty g.2)

    pub all_listed : r ∈ all_read v a u b → (1 ≤ b) × (b ≤ n)
    unfolding all_read
    all_listed m = to_listed nothing
      where
        nothing : calls_of v b ≡ [] → ⊥
        nothing e =
            let g = concat_map_out (all_leg v u) (legs v (calls_of v a) (calls_of v b)) m in
            let empty = legs_none v (calls_of v a) g.0 (subst (λ ds. g.0 ∈ legs v (calls_of v a) ds) e g.1) in
            none (subst (λ rs. r ∈ all_on v u (line g.0.call.line) g.0.call.place rs) empty g.2)

  module _ (a u b : ℕ) (some : 1 ≤ a) (inside : a ≤ n) (to_some : 1 ≤ b) (to_inside : b ≤ n) where
    -- the calls of both stations
    abbrev cs : List Call
    cs = calls_of v a

    abbrev ds : List Call
    ds = calls_of v b

    -- what is left of those of b after a call: all of them rise, and stand where lines call at b
    left : (c : Call) → Left t c.line (line_of t c.line) b c.place (after c ds)
    left c =
        let rise = calls_rise v timetable told b to_some to_inside in
        record {
          rise = after_rising c ds rise;
          behind = λ d m. (after_out c ds rise d m).1;
          met = λ d m e.
              let k = calls_out v timetable told b to_some to_inside d (after_out c ds rise d m).0 in
              let long = ap (λ i. length (course t (line_of t i))) e in
              (omega (arith, k.inside, long), ap (λ i. station_on t (line_of t i) d.place) (sym e) ∙ k.station);
        }

    legs_here : legs v cs ds ≡ map (λ c. leg_of v c (after c ds)) cs
    legs_here = legs_are v cs ds (calls_rise v timetable told a some inside)

    -- ---- from the words to the timetable: a call, a place to ride to, and a trip
    module _ (c : Call) (k : Met t a c) where
      abbrev i : ℕ
      i = c.line

      abbrev x : ℕ
      x = c.place

      read : (r : Reach) → r ∈ reach_of v (line i) c (after c ds) → (j : ℕ) → j < (line i).trips
          → Read timetable a b (ride_on v (line i) x j r)
      read r m j h =
          let words = told.line i k.listed in
          let found = reach_out v timetable i (line_of t i) words b x (after c ds) (left c) r m in
          let q = found.0 in
          let runs : j < length (line_of t i) = omega (arith, words.trips) in
          record {
            i = i;
            x = x;
            y = r.place;
            j = j;
            by =
                record {
                  listed = k.listed;
                  pair =
                      record {
                        later = q.later;
                        inside = q.inside;
                        board = k.station;
                        alight = q.station;
                        boards = open_boards i k.listed x r.place k.inside q.inside found.1;
                        alights = open_alights i k.listed x r.place k.inside q.inside found.1;
                      };
                  runs = runs;
                };
            is =
                sym
                (ride_same v timetable i (line_of t i) words (line_good t i k.listed)
                (station_few timetable okay i k.listed) x b j k.inside runs r q);
          }

    -- a leg is that of a call
    leg_out : (g : Leg) → g ∈ legs v cs ds → (c : Call) × (Met t a c) × (leg_of v c (after c ds) ≡ g)
    leg_out g m =
        let q = Memᴰ.of_map (λ c. leg_of v c (after c ds)) cs (rw legs_here at m) in
        (q.0, calls_out v timetable told a some inside q.0 q.1, q.2)

    pub first_read_out : (r : Ride) → r ∈ first_read v a u b
        → (k : Read timetable a b r) × (first k.i k.x u ≡ k.j)
    unfolding first_read read
    first_read_out r m =
        let g = concat_map_out (first_leg v u) (legs v cs ds) m in
        let c = leg_out g.0 g.1 in
        let l = line c.0.line in
        let x = c.0.place in
        let f = first_trip v l x u in
        let rs = reach_of v l c.0 (after c.0 ds) in
        let on = subst (λ g. r ∈ first_leg v u g) (sym c.2) g.2 in
        let w = under_out (ltb f l.trips) (map (ride_on v l x f) (nearest rs)) on in
        let q = Memᴰ.of_map (ride_on v l x f) (nearest rs) w.1 in
        subst
        (λ r. (k : Read timetable a b r) × (first k.i k.x u ≡ k.j))
        q.2
        (read c.0 c.1 q.0 (nearest_in rs q.0 q.1) f (ltb→lt f l.trips w.0), refl)

    -- those to the nearest places are among all
    pub near_read_out : (r : Ride) → r ∈ near_read v a u b → r ∈ all_read v a u b
    unfolding near_read all_read
    near_read_out r m =
        let g = concat_map_out (near_leg v u) (legs v cs ds) m in
        let l = line g.0.call.line in
        let x = g.0.call.place in
        let q = concat_map_out (trips_to v u l x) (nearest g.0.reach) g.2 in
        let all = concat_map_in (trips_to v u l x) (nearest_in g.0.reach q.0 q.1) q.2 in
        concat_map_in (all_leg v u) g.1 all

    pub all_read_out : (r : Ride) → r ∈ all_read v a u b → (k : Read timetable a b r) × (first k.i k.x u ≤ k.j)
    unfolding all_read read
    all_read_out r m =
        let g = concat_map_out (all_leg v u) (legs v cs ds) m in
        let c = leg_out g.0 g.1 in
        let l = line c.0.line in
        let x = c.0.place in
        let f = first_trip v l x u in
        let rs = reach_of v l c.0 (after c.0 ds) in
        let on = subst (λ g. r ∈ all_leg v u g) (sym c.2) g.2 in
        let q = concat_map_out (trips_to v u l x) rs on in
        let w = Memᴰ.of_map (λ j. ride_on v l x j q.0) (range f (l.trips - f)) q.2 in
        let h = range_out f (l.trips - f) w.0 w.1 in
        subst
        (λ r. (k : Read timetable a b r) × (first k.i k.x u ≤ k.j))
        w.2
        (read c.0 c.1 q.0 q.1 w.0 (omega arith), h.0)

    -- ---- and back
    module _ (i x y j : ℕ) (k : By timetable a b i x y j) where
      abbrev l : Line
      l = line i

      abbrev f : ℕ
      f = first i x u

      words : LineTold v timetable i (line_of t i)
      words = told.line i k.listed

      x_inside : x < length (course t (line_of t i))
      x_inside = from_inside timetable a b i x y j k

      abbrev call : Call
      call = record { line = i; place = x }

      leg_listed : leg_of v call (after call ds) ∈ legs v cs ds
      leg_listed =
          let met : Met t a call = record { listed = k.listed; inside = x_inside; station = k.pair.board } in
          rw legs_here
          (Memᴰ.map (λ c. leg_of v c (after c ds)) (calls_in_lem v timetable told a some inside call met))

      -- the place to ride to
      abbrev there : Reach
      there = record { place = y; points = points_between v l x y }

      abbrev rs : List Reach
      rs = reach_of v l call (after call ds)

      there_reached : there ∈ rs
      there_reached =
          let p = k.pair in
          let stop : Call = record { line = i; place = y } in
          let met : Met t b stop = record { listed = k.listed; inside = p.inside; station = p.alight } in
          let listed = calls_in_lem v timetable told b to_some to_inside stop met in
          let later : Later call stop = record { line = omega arith; place = λ s. p.later } in
          reach_in v timetable i (line_of t i) words b x (after call ds) (left call) y
          (opens_both i k.listed x y x_inside p.inside p.boards p.alights)
          (after_in call ds stop listed later)

      ride_is : ride_on v l x j there ≡ ride_by timetable i x y j
      ride_is =
          let p = k.pair in
          ride_same v timetable i (line_of t i) words (line_good t i k.listed)
          (station_few timetable okay i k.listed) x b j x_inside k.runs there
          (record {
            later = p.later;
            inside = p.inside;
            station = p.alight;
            costs = ride_difference v timetable i (line_of t i) words x y (omega (arith, p.later)) p.inside;
          })

      -- the nearest of those places, no later than this one
      record Near : Type 0 where
        reach : Reach
        listed : reach ∈ nearest rs
        nearer : reach.place ≤ y
        later : x < reach.place
        same : ride_on v l x j reach ≡ ride_by timetable i x reach.place j

      near : Near
      near =
          let e = reach_nearest v timetable i (line_of t i) words b x (after call ds) (left call) there there_reached in
          let q =
          (reach_out v timetable i (line_of t i) words b x (after call ds) (left call) e.0
          (nearest_in rs e.0 e.1)).0 in
          record {
            reach = e.0;
            listed = e.1;
            nearer = e.2;
            later = q.later;
            same =
                ride_same v timetable i (line_of t i) words (line_good t i k.listed)
                (station_few timetable okay i k.listed) x b j x_inside k.runs e.0 q;
          }

      pub first_read_in : f ≡ j → (z : ℕ) × (x < z) × (z ≤ y) × (ride_by timetable i x z j ∈ first_read v a u b)
      unfolding first_read
      first_read_in e =
          let q = near in
          let runs : f < l.trips = omega (arith, e, k.runs, words.trips) in
          let same = ap (λ j. ride_on v l x j q.reach) e ∙ q.same in
          let mapped = Memᴰ.map (ride_on v l x f) q.listed in
          let one =
          under_in (ltb f l.trips) (map (ride_on v l x f) (nearest rs)) (lt→ltb f l.trips runs) mapped in
          (q.reach.place, q.later, q.nearer, Memᴰ.cast (sym same) (concat_map_in (first_leg v u) leg_listed one))

      pub near_read_in : f ≤ j → (z : ℕ) × (x < z) × (z ≤ y) × (ride_by timetable i x z j ∈ near_read v a u b)
      unfolding near_read
      near_read_in h =
          let q = near in
          let runs : j < f + (l.trips - f) = omega (arith, h, k.runs, words.trips) in
          let trip = range_in f (l.trips - f) j h runs in
          let one =
          concat_map_in (trips_to v u l x) q.listed (Memᴰ.map (λ j. ride_on v l x j q.reach) trip) in
          (q.reach.place, q.later, q.nearer, Memᴰ.cast (sym q.same) (concat_map_in (near_leg v u) leg_listed one))

      pub all_read_in : f ≤ j → ride_by timetable i x y j ∈ all_read v a u b
      unfolding all_read
      all_read_in h =
          let runs : j < f + (l.trips - f) = omega (arith, h, k.runs, words.trips) in
          let trip = range_in f (l.trips - f) j h runs in
          let one = concat_map_in (trips_to v u l x) there_reached (Memᴰ.map (λ j. ride_on v l x j there) trip) in
          Memᴰ.cast (sym ride_is) (concat_map_in (all_leg v u) leg_listed one)

      -- the trip leaves in time if it is the first that does, or behind it
      pub timely_by : f ≤ j → T (in_time t u x (get_or (line_of t i) j 0))
      timely_by = timely_out v timetable i (line_of t i) words x u x_inside (line_good t i k.listed) j k.runs

      pub by_timely : T (in_time t u x (get_or (line_of t i) j 0)) → f ≤ j
      by_timely = timely_in v timetable i (line_of t i) words x u x_inside j k.runs
