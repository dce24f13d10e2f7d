-- What the code reads of one line: the later positions of a station with the penalties of the rides there, the first
-- trip that leaves in time, and the rides themselves. They are those that the timetable says.
use Rattle.std.specs.Prelude.{◌≡◌, Bool, true, false, cond, ℕ, ◌≤◌, ◌<◌, leb, eqb, length, get_or}
use Rattle.std.proofs.Math.Path.{refl, sym}
use Rattle.std.proofs.Common.{ap, subst, ◌∙◌, add-one, arith, eqb-true, leb→le, le→leb}
use mathlib.Core.List.Memᴰ.{head as here}
use mathlib.Core.List.Memᴰ.{tail as there}
use mathlib.Core.List.{List, [], ◌∷◌}
use Rattle.std.proofs.Math.Decide.{ℕ_discrete}
use Rattle.std.proofs.lemmas.Bool.{eqb-false}
use Rattle.std.proofs.Math.Dec.{T}
use Rattle.timetable.specs.Timetable.{Trip, Timetable}
use Rattle.lists.specs.Lists.{◌∈◌, first_of}
use Rattle.lists.specs.Members.{none, cons_cases}
use Rattle.connections.specs.Rides.{ride_points, ride_in}
use Rattle.lines.specs.Lines.{course, station_on}
use Rattle.lines.specs.DirectRides.{in_time}
use Rattle.lines.proofs.Behind.{behind_points}
use Rattle.lines.proofs.Ordered.{Line as GoodLine, line_stop, head_behind, no_overtaking}
use Rattle.lines_tables.specs.Tables.{stop_of}
use Rattle.lines_tables.specs.Spelled.{within}
use Rattle.lines_lookup.specs.Lookup.{Line, line_at, points_between, depart_at}
use Rattle.lines_lookup.specs.First.{first_trip}
use Rattle.lines_lookup.specs.Calls.{Call}
use Rattle.lines_lookup.specs.Told.{LineTold, ride_difference}
use Rattle.lines_lookup.specs.Marked.{line_station}
use Rattle.lines_lookup.specs.Rising.{Later, Rising}
use Rattle.query_places.specs.Candidates.{Reach, opens, reach_to, reach_of, nearest, ride_on}
use Rattle.lists.specs.First.{Foremost, foremost}
use Rattle.query_nearest.specs.Foremost.{first_at_in, first_at_out}

-- the nearest place is one of them
pub nearest_in : (rs : List Reach) (r : Reach) → r ∈ nearest rs → r ∈ rs
unfolding nearest
nearest_in [] r m = none m
nearest_in (e ∷ rs) r m = cons_cases m here none

-- a later place of station b on line l, and the penalty of the ride from place x
pub record Reached (t : List Trip) (l : List ℕ) (x b : ℕ) (r : Reach) : Type 0 where
  pub later : x < r.place
  pub inside : r.place < length (course t l)
  pub station : station_on t l r.place ≡ b
  pub costs : r.points ≡ ride_points (course t l) x r.place

-- calls of station b that rise, each of them after place x of the line at place i, which is l
pub record Left (t : List Trip) (i : ℕ) (l : List ℕ) (b x : ℕ) (ds : List Call) : Type 0 where
  pub rise : Rising ds
  pub behind : (d : Call) → d ∈ ds → Later (record { line = i; place = x }) d
  pub met : (d : Call) → d ∈ ds → d.line ≡ i → (d.place < length (course t l)) × (station_on t l d.place ≡ b)

module _ (v : List ℕ) (timetable : Timetable) (i : ℕ) (l : List ℕ) (told : LineTold v timetable i l) where
  abbrev t : List Trip
  t = timetable.trips

  abbrev line : Line
  line = line_at v i

  -- ---- the places that one can ride to: in front of what is left after the call stand those of its line
  module _ (b x : ℕ) where
    abbrev call : Call
    call = record { line = i; place = x }

    rest_left : (d : Call) (ds : List Call) → Left t i l b x (d ∷ ds) → Left t i l b x ds
    rest_left d ds k =
        record {
          rise = k.rise.1;
          behind = λ e m. k.behind e (there m);
          met = λ e m. k.met e (there m);
        }

    at_place : (d : Call) → Later call d → (d.line ≡ i)
        → (d.place < length (course t l)) × (station_on t l d.place ≡ b)
        → Reached t l x b (record { place = d.place; points = points_between v line x d.place })
    at_place d later same k =
        let x-before = later.place (sym same) in
        record {
          later = x-before;
          inside = k.0;
          station = k.1;
          costs = ride_difference v timetable i l told x d.place (omega arith) k.0;
        }

    pub reach_out : (ds : List Call) → Left t i l b x ds → (r : Reach) → r ∈ reach_of v line call ds
        → Reached t l x b r × T (opens v line x r.place)
    unfolding reach_of
    reach_out [] k r m = none m
    reach_out (d ∷ ds) k r m =
        go (eqb d.line i) refl (opens v line x d.place) refl m (reach_out ds (rest_left d ds k) r)
      where
        Found : Type 0
        Found = Reached t l x b r × T (opens v line x r.place)

        go : (q : Bool) → eqb d.line i ≡ q → (o : Bool) → opens v line x d.place ≡ o
            → r ∈ cond q (cond o (reach_to v line call d ∷ reach_of v line call ds) (reach_of v line call ds)) []
            → (r ∈ reach_of v line call ds → Found) → Found
        go true e true f m ih =
            let same = eqb-true d.line i e in
            cons_cases
            m
            (λ p.
            subst (λ r. Reached t l x b r × T (opens v line x r.place)) (sym p)
            (at_place d (k.behind d (here refl)) same (k.met d (here refl) same), subst T (sym f) tt))
            ih
        go true e false f m ih = ih m
        go false e o f m ih = none m

    -- a call of the line is not passed over: those before it are of the line too, since calls rise
    pub reach_in : (ds : List Call) → Left t i l b x ds → (y : ℕ) → T (opens v line x y)
        → record { line = i; place = y } ∈ ds
        → record { place = y; points = points_between v line x y } ∈ reach_of v line call ds
    unfolding reach_of
    reach_in [] k y w m = none m
    reach_in (d ∷ ds) k y w m =
        go (eqb d.line i) refl (opens v line x d.place) refl (reach_in ds (rest_left d ds k) y w)
      where
        wanted : Reach
        wanted = record { place = y; points = points_between v line x y }

        go : (q : Bool) → eqb d.line i ≡ q → (o : Bool) → opens v line x d.place ≡ o
            → (record { line = i; place = y } ∈ ds → wanted ∈ reach_of v line call ds)
            → wanted ∈ cond q (cond o (reach_to v line call d ∷ reach_of v line call ds) (reach_of v line call ds)) []
        go true e true f ih = cons_cases m (λ p. here (ap (reach_to v line call) p)) (λ j. there (ih j))
        go true e false f ih =
            cons_cases m (λ p. absurd (subst T f (subst (λ c. T (opens v line x c.place)) p w))) ih
        go false e o f ih =
            cons_cases
            m
            (λ p. absurd (eqb-false d.line i e (sym (ap (λ d. d.line) p))))
            (λ j.
            let front = (k.behind d (here refl)).line in
            let back = (k.rise.0 (record { line = i; place = y }) j).line in
            absurd (eqb-false d.line i e (omega arith)))

    -- ---- the nearest of them
    reach_call : (ds : List Call) (r : Reach) → r ∈ reach_of v line call ds
        → (d : Call) × (d ∈ ds) × (d.line ≡ i) × (d.place ≡ r.place)
    unfolding reach_of
    reach_call [] r m = none m
    reach_call (d ∷ ds) r m = go (eqb d.line i) refl (opens v line x d.place) m (reach_call ds r)
      where
        Found : List Call → Type 0
        Found l = (e : Call) × (e ∈ l) × (e.line ≡ i) × (e.place ≡ r.place)

        go : (q : Bool) → eqb d.line i ≡ q → (o : Bool)
            → r ∈ cond q (cond o (reach_to v line call d ∷ reach_of v line call ds) (reach_of v line call ds)) []
            → (r ∈ reach_of v line call ds → Found ds) → Found (d ∷ ds)
        go true e true m ih =
            cons_cases
            m
            (λ p. (d, here refl, eqb-true d.line i e, ap (λ r. r.place) (sym p)))
            (λ j. let k = ih j in (k.0, there k.1, k.2, k.3))
        go true e false m ih = let k = ih m in (k.0, there k.1, k.2, k.3)
        go false e o m ih = none m

    pub reach_nearest : (ds : List Call) → Left t i l b x ds → (r : Reach) → r ∈ reach_of v line call ds
        → (e : Reach) × (e ∈ nearest (reach_of v line call ds)) × (e.place ≤ r.place)
    unfolding reach_of nearest
    reach_nearest [] k r m = none m
    reach_nearest (d ∷ ds) k r m =
        go (eqb d.line i) refl (opens v line x d.place) m (reach_nearest ds (rest_left d ds k) r)
      where
        behind : d.line ≡ i → r ∈ reach_of v line call ds → d.place ≤ r.place
        behind same m =
            let c = reach_call ds r m in
            let later = (k.rise.0 c.0 c.1).place (same ∙ sym c.2) in
            omega (arith, c.3)

        Found : List Reach → Type 0
        Found l = (e : Reach) × (e ∈ nearest l) × (e.place ≤ r.place)

        go : (q : Bool) → eqb d.line i ≡ q → (o : Bool)
            → r ∈ cond q (cond o (reach_to v line call d ∷ reach_of v line call ds) (reach_of v line call ds)) []
            → (r ∈ reach_of v line call ds → Found (reach_of v line call ds))
            → Found (cond q (cond o (reach_to v line call d ∷ reach_of v line call ds) (reach_of v line call ds)) [])
        go true e true m ih =
            let same = eqb-true d.line i e in
            (reach_to v line call d, here refl, cons_cases m (λ p. omega (arith, ap (λ r. r.place) p)) (behind same))
        go true e false m ih = ih m
        go false e o m ih = none m

  -- ---- the first trip that leaves in time
  module _ (x u : ℕ) (h : x < length (course t l)) where
    abbrev f : ℕ
    f = first_trip v line x u

    foremost_trip : Foremost (λ j. leb u (depart_at v line x j)) 0 line.trips f
    foremost_trip = foremost (λ j. leb u (depart_at v line x j)) 0 line.trips

    in_time_lem : (j : ℕ) → j < length l → depart_at v line x j ≡ (stop_of t (get_or l j 0) x).depart
    in_time_lem j g = told.depart x j h g

    -- a trip in front of it leaves too early
    pub early : (j : ℕ) → j < length l → j < f → ¬ T (in_time t u x (get_or l j 0))
    early j g k s = foremost_trip.before j (omega arith) k (rw (in_time_lem j g) s)

    pub leaves_in_time : f < length l → T (in_time t u x (get_or l f 0))
    leaves_in_time g = rw (in_time_lem f g) at (foremost_trip.passes (omega (arith, told.trips)))

    -- it is the first of the line
    pub first_trip_in : f < length l → get_or l f 0 ∈ first_of (in_time t u x) l
    first_trip_in g =
        first_at_in (in_time t u x) l f
        (record { inside = g; passes = leaves_in_time g; before = λ k j. early k (omega arith) j })

    pub first_trip_out : (z : ℕ) → z ∈ first_of (in_time t u x) l → (f < length l) × (get_or l f 0 ≡ z)
    first_trip_out z m =
        let r = first_at_out (in_time t u x) l z m in
        let j = r.0 in
        let k = r.1 in
        let not_behind : ¬ (j < f) = (λ g. early j k.inside g k.passes) in
        let not_before : ¬ (f < j) = (λ g. k.before f g (leaves_in_time (omega (arith, k.inside)))) in
        let same : f ≡ j = omega (arith, not_behind, not_before) in
        (omega (arith, same, k.inside), ap (λ j. get_or l j 0) same ∙ r.2)

    -- the trips that leave in time are that one and all behind it
    pub timely_out : GoodLine t l → (j : ℕ) → j < length l → f ≤ j → T (in_time t u x (get_or l j 0))
    timely_out good j g k =
        elim (ℕ_discrete f j) [
          | yes e ↦ subst (λ j. T (in_time t u x (get_or l j 0))) e (leaves_in_time (omega arith))
          | no e ↦ le→leb u (stop_of t (get_or l j 0) x).depart (behind (omega arith))
        ]
      where
        behind : f < j → u ≤ (stop_of t (get_or l j 0) x).depart
        behind d =
            let first = leb→le u (stop_of t (get_or l f 0) x).depart (leaves_in_time (omega arith)) in
            omega (arith, first, (no_overtaking t l good f j d g x).depart)

    pub timely_in : (j : ℕ) → j < length l → T (in_time t u x (get_or l j 0)) → f ≤ j
    timely_in j g s =
        let not_behind : ¬ (j < f) = (λ k. early j g k s) in
        omega (arith, not_behind)

  -- ---- the rides
  module _ (good : GoodLine t l) (few : (p : ℕ) → p < length (course t l) → station_on t l p < 128) where
    -- the ride that the code reads is that of the trip
    pub ride_same : (x b j : ℕ) → x < length (course t l) → j < length l → (r : Reach) → Reached t l x b r
        → ride_on v line x j r ≡ ride_in timetable (get_or l j 0) x r.place
    ride_same x b j h g r k =
        let y = r.place in
        let z = get_or l j 0 in
        let member = within l j 0 g in
        let trip = told.number j g in
        let board = add-one x in
        let alight = add-one y in
        let from = line_station v timetable i l told x h (few x h) ∙ (line_stop t l z x good member).station in
        let to =
        line_station v timetable i l told y k.inside (few y k.inside) ∙ (line_stop t l z y good member).station in
        let depart = told.depart x j h g in
        let arrive = told.arrive y j k.inside g in
        let cost = k.costs ∙ behind_points (course t l) (get_or t z []) (head_behind t l z good member) x y in
        λ e.
        record {
          trip = trip e;
          board = board e;
          alight = alight e;
          from = from e;
          to = to e;
          depart = depart e;
          arrive = arrive e;
          points = cost e;
        }
