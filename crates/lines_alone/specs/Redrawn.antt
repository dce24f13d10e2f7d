-- What is drawn from line tables are the trips that they were built from: each trip stands on some line and numbers
-- rise, so that those on lines, rising, are the timetable's; the first line that has a number is found, and all trips
-- of a line agree in stations and ride penalties. A penalty is told by the low words of two totals; at a trip's last
-- stop a valid timetable has none.
use Rattle.std.specs.Prelude.{◌≡◌, Bool, eqb, get_or, replicate}
use Rattle.std.proofs.Math.Path.{refl, ap, subst}
use Rattle.std.proofs.Common.{sym, ◌∙◌, mod-lt, mod-eq_of_lt, add-one}
use Rattle.std.proofs.Math.Bool.{true, false, cond}
use mathlib.Core.List.Memᴰ.{head as here}
use mathlib.Core.List.Memᴰ.{tail as there}
use mathlib.Core.List.{List, [], ◌∷◌, map}
use Prim.Native.Nat.{ℕ, zero, suc, ◌+◌, ◌-◌, ◌*◌, ◌%◌, ◌/◌, ◌≤◌, ◌<◌}
use Rattle.std.proofs.Math.Nat.{mod-add-div}
use native.Mathlib.Omega.{arith}
use Rattle.std.proofs.Math.Decide.{ℕ_discrete, dec_lt}
use borrow.Author.Tests.{ltb-true, lt-ltb, le-ltb, eqb-true, eq-eqb}
use Rattle.std.proofs.Math.Arith.{digits_mod}
use Rattle.std.proofs.Math.Dec.{T}
use Rattle.std.proofs.Math.ListN.{length}
use Rattle.lists.specs.Lists.{◌∈◌, keep, filter, range}
use Rattle.lists.specs.Members.{none, cons_cases}
use Rattle.lists.specs.Tests.{T_true, reads, writes}
use Rattle.timetable.specs.Timetable.{Trip, Timetable, number_of, number_most, valid_trip, valid_trips, climb, numbered}
use Rattle.timetable.specs.Timetable.{valid}
use Rattle.timetable.specs.Numbers.{numbers_many, number_most_lem, number_unique}
use Rattle.timetable.specs.Access.{trip_valid, trip_cheap, trip_free}
use Rattle.connections.specs.Rides.{no_stop}
use Rattle.connections.proofs.RideLaws.{points_more}
use Rattle.lines.specs.Lines.{lines, course}
use Rattle.lines.proofs.Ordered.{Line, lines_good, line_length, line_stop}
use Rattle.lines.specs.Once.{line_of_lem, trip_listed}
use Rattle.lines_tables.specs.Tables.{total_on}
use Rattle.lines_tables.specs.Spelled.{within}
use Rattle.lines_lookup.specs.Lookup.{line_count, line_at, number_at}
use Rattle.lists.specs.First.{first_from}
use Rattle.lines_lookup.specs.Told.{LineTold, Told}
use Rattle.lines_lookup.specs.Marked.{line_station, line_mark_lem, station_few}
use Rattle.lines_alone.specs.Drawn.{Home, home_line, stands, home_of, next_points, stop_on, trip_on, numbers_from}
use Rattle.lines_alone.specs.Drawn.{drawn_numbers, drawn_trip, plain_station, drawn}
use Rattle.lines_marks.specs.Marks.{place_on, has_trip}

-- ---- the first number that passes a test: it passes, and is there if any passes
module _ (test : ℕ → Bool) where
  pub first_passes : (j n : ℕ) → first_from test j n < j + n → test (first_from test j n) ≡ true
  unfolding first_from
  first_passes j zero h = absurd (omega arith)
  first_passes j (suc n) h = go (test j) refl h (first_passes (suc j) n)
    where
      go : (b : Bool) → test j ≡ b → cond b j (first_from test (suc j) n) < j + suc n
          → (first_from test (suc j) n < suc j + n → test (first_from test (suc j) n) ≡ true)
          → test (cond b j (first_from test (suc j) n)) ≡ true
      go true e g ih = e
      go false e g ih = ih (omega arith)

  first_there : (j n i : ℕ) → j ≤ i → i < j + n → test i ≡ true → first_from test j n < j + n
  unfolding first_from
  first_there j zero i g h e = absurd (omega arith)
  first_there j (suc n) i g h e = go (test j) refl (first_there (suc j) n i)
    where
      go : (b : Bool) → test j ≡ b
          → (suc j ≤ i → i < suc j + n → test i ≡ true → first_from test (suc j) n < suc j + n)
          → cond b j (first_from test (suc j) n) < j + suc n
      go true q ih = omega arith
      go false q ih =
          elim (ℕ_discrete i j) [
            | yes s ↦ absurd (subst T (sym e ∙ ap test s ∙ q) tt)
            | no s ↦ omega (arith, ih (omega arith) (omega arith) e)
          ]

-- ---- a member of a list stands at some place
record Placed {A : Type 0} (x d : A) (l : List A) : Type 0 where
  at : ℕ
  inside : at < length l
  is : get_or l at d ≡ x

placed : {A : Type 0} {x : A} (d : A) {l : List A} → x ∈ l → Placed x d l
placed d (here e) = record { at = 0; inside = omega arith; is = sym e }
placed d (there m) =
    let p = placed d m in
    record { at = suc p.at; inside = omega (arith, p.inside); is = p.is }

-- ---- a list is read place by place
read_off : {A : Type 0} (d : A) (f : ℕ → A) (k : ℕ) (l : List A)
    → ((i : ℕ) → i < length l → f (k + i) ≡ get_or l i d) → map f (range k (length l)) ≡ l
read_off d f k [] h = refl
read_off d f k (x ∷ l) h =
    let first : k ≡ k + 0 = omega arith in
    let next : (i : ℕ) → suc k + i ≡ k + suc i = λ i. omega arith in
    let rest = read_off d f (suc k) l (λ i g. ap f (next i) ∙ h (suc i) (omega arith)) in
    λ i. (ap f first ∙ h 0 (omega arith)) i ∷ rest i

read_all : {A : Type 0} (d : A) (f : ℕ → A) (l : List A) → ((i : ℕ) → i < length l → f i ≡ get_or l i d)
    → map f (range 0 (length l)) ≡ l
read_all d f l h = read_off d f 0 l (λ i g. ap f (omega arith) ∙ h i g)

-- ---- numbers that rise are those that pass a test, among k numbers above a
module _ (test : ℕ → Bool) where
  record Exact (a k : ℕ) (l : List ℕ) : Type 0 where
    climbs : T (climb a l)
    passes : (x : ℕ) → x ∈ l → test x ≡ true
    near : (x : ℕ) → x ∈ l → x ≤ a + k
    all : (x : ℕ) → a < x → x ≤ a + k → test x ≡ true → x ∈ l

  above : (a : ℕ) (l : List ℕ) → T (climb a l) → (x : ℕ) → x ∈ l → a < x
  unfolding climb
  above a [] c x m = none m
  above a (n ∷ l) c x m =
      let first : a < n = search reads in
      let rest : T (climb n l) = search reads in
      cons_cases m (λ e. omega arith) (λ k. omega (arith, above n l rest x k))

  -- the number behind a is none of them
  skips : (a : ℕ) (l : List ℕ) → T (climb a l) → ¬ (suc a ∈ l) → T (climb (suc a) l)
  unfolding climb
  skips a [] c h = c
  skips a (n ∷ l) c h =
      let first : a < n = search reads in
      let most : n ≤ number_most = search reads in
      let rest : T (climb n l) = search reads in
      let next : suc a < n = elim (ℕ_discrete n (suc a)) [
        | yes e ↦ absurd (h (here (sym e)))
        | no e ↦ omega arith
      ] in
      search writes

  exact_later : (a k : ℕ) (l : List ℕ) → Exact a (suc k) l → test (suc a) ≡ false → Exact (suc a) k l
  exact_later a k l e q =
      record {
        climbs = skips a l e.climbs (λ m. subst T (sym (e.passes (suc a) m) ∙ q) tt);
        passes = e.passes;
        near = (λ x m. omega (arith, e.near x m));
        all = (λ x g h p. e.all x (omega arith) (omega arith) p);
      }

  -- it is the first of them
  record First (a k : ℕ) (l : List ℕ) : Type 0 where
    rest : List ℕ
    is : l ≡ suc a ∷ rest
    exact : Exact (suc a) k rest

  exact_first : (a k : ℕ) (l : List ℕ) → Exact a (suc k) l → test (suc a) ≡ true → First a k l
  unfolding climb
  exact_first a k [] e q = none (e.all (suc a) (omega arith) (omega arith) q)
  exact_first a k (n ∷ l) e q =
      let climbs = e.climbs in
      let first : a < n = search reads in
      let rest : T (climb n l) = search reads in
      let is : suc a ≡ n =
      cons_cases (e.all (suc a) (omega arith) (omega arith) q) (λ m. m)
      (λ m. absurd (omega (arith, above n l rest (suc a) m))) in
      record {
        rest = l;
        is = ap (λ x. x ∷ l) (sym is);
        exact =
            record {
              climbs = subst (λ x. T (climb x l)) (sym is) rest;
              passes = (λ x m. e.passes x (there m));
              near = (λ x m. omega (arith, e.near x (there m)));
              all =
                  (λ x g h p. cons_cases (e.all x (omega arith) (omega arith) p) (λ m. absurd (omega arith)) (λ m. m));
            };
      }

  picked : (a k : ℕ) (l : List ℕ) → Exact a k l → filter test (range (suc a) k) ≡ l
  picked a zero [] e = refl
  picked a zero (n ∷ l) e =
      absurd (omega (arith, above a (n ∷ l) e.climbs n (here refl), e.near n (here refl)))
  picked a (suc k) l e = go (test (suc a)) refl (picked (suc a) k)
    where
      go : (b : Bool) → test (suc a) ≡ b
          → ((m : List ℕ) → Exact (suc a) k m → filter test (range (suc (suc a)) k) ≡ m)
          → keep b (suc a) (filter test (range (suc (suc a)) k)) ≡ l
      go true q ih =
          let f = exact_first a k l e q in
          ap (λ m. suc a ∷ m) (ih f.rest f.exact) ∙ sym f.is
      go false q ih = ih l (exact_later a k l e q)

numbers_picked : (v : List ℕ) (a k : ℕ) (l : List ℕ) → Exact (stands v) a k l → numbers_from v (suc a) k ≡ l
unfolding numbers_from
numbers_picked v a k l e = picked (stands v) a k l e

-- ---- one ride further: the low words of two totals tell the single penalty
-- what was added to a number that is told modulo 65,536, if it is less than that
added : (n k : ℕ) → k < 65536 → (65536 + (n + k) % 65536 - n % 65536) % 65536 ≡ k
added n k h =
    elim (dec_lt (n % 65536 + k) 65536) [
      | yes g ↦
          let is : n + k ≡ n / 65536 * 65536 + (n % 65536 + k) = omega (arith, mod-add-div n 65536) in
          let low : (n + k) % 65536 ≡ n % 65536 + k = ap (λ m. m % 65536) is ∙ digits_mod (n / 65536) g in
          let rest : 65536 + (n % 65536 + k) - n % 65536 ≡ 1 * 65536 + k = omega arith in
          ap (λ m. (65536 + m - n % 65536) % 65536) low ∙ ap (λ m. m % 65536) rest ∙ digits_mod 1 h
      | no g ↦
          let below : n % 65536 + k - 65536 < 65536 = omega (arith, mod-lt n {m = 65536} (omega arith)) in
          let is : n + k ≡ (n / 65536 + 1) * 65536 + (n % 65536 + k - 65536) =
          omega (arith, mod-add-div n 65536) in
          let low : (n + k) % 65536 ≡ n % 65536 + k - 65536 =
          ap (λ m. m % 65536) is ∙ digits_mod (n / 65536 + 1) below in
          let rest : 65536 + (n % 65536 + k - 65536) - n % 65536 ≡ k = omega arith in
          ap (λ m. (65536 + m - n % 65536) % 65536) low ∙ ap (λ m. m % 65536) rest ∙ mod-eq_of_lt h
    ]

module _ (v : List ℕ) (timetable : Timetable) (i : ℕ) (l : List ℕ) (told : LineTold v timetable i l) (p : ℕ) where
  abbrev trips : List Trip
  trips = timetable.trips

  next_total : p + 1 < length (course trips l)
      → total_on (course trips l) (p + 1) ≡ total_on (course trips l) p + (get_or (course trips l) p no_stop).points
  next_total h =
      ap (total_on (course trips l)) (add-one p) ∙ points_more (course trips l) 0 p (omega arith) (omega arith)

  next_drawn : p + 1 < length (course trips l) → (get_or (course trips l) p no_stop).points ≤ 100
      → next_points v (line_at v i) p ≡ (get_or (course trips l) p no_stop).points
  unfolding next_points
  next_drawn h cheap =
      let here = told.low p (omega arith) in
      let next = told.low (p + 1) h ∙ ap (λ m. m % 65536) (next_total h) in
      rw (lt-ltb (p + 1) (line_at v i).positions (omega (arith, told.positions)))
      ((λ k. (65536 + next k - here k) % 65536)
      ∙ added (total_on (course trips l) p) (get_or (course trips l) p no_stop).points (omega arith))

  last_drawn : p + 1 ≡ length (course trips l) → next_points v (line_at v i) p ≡ 0
  unfolding next_points
  last_drawn h = rw (le-ltb (p + 1) (line_at v i).positions (omega (arith, told.positions)))

-- ---- the home of a number that stands on a line: a line with a trip of this number
record Homed (v : List ℕ) (t : Timetable) (number : ℕ) : Type 0 where
  line : ℕ
  place : ℕ
  listed : line < length (lines t.trips)
  on : place < length (get_or (lines t.trips) line [])
  same : number_of t (get_or (get_or (lines t.trips) line []) place 0) ≡ number
  is : home_of v number ≡ record { line = line_at v line; place = place }

module _ (v : List ℕ) (timetable : Timetable) (told : Told v timetable) where
  abbrev t : List Trip
  t = timetable.trips

  module _ (number : ℕ) where
    abbrev is_number : (i j : ℕ) → Bool
    is_number i j = eqb (number_at v (line_at v i) j) number

    abbrev place_in : (i : ℕ) → ℕ
    place_in i = place_on v (line_at v i) number

    -- where a trip of this number stands on the line at place i, the line has it
    line_has : (z i : ℕ) → number_of timetable z ≡ number → i < length (lines t) → Placed z 0 (get_or (lines t) i [])
        → has_trip v number i ≡ true
    line_has z i same listed p =
        let l = told.line i listed in
        let m = (line_at v i).trips in
        let inside : p.at < 0 + m = omega (arith, l.trips, p.inside) in
        let is = l.number p.at p.inside ∙ ap (number_of timetable) p.is ∙ same in
        let passes = eq-eqb (number_at v (line_at v i) p.at) number is in
        let there = first_there (is_number i) 0 m p.at (omega arith) inside passes in
        lt-ltb (place_in i) m (omega arith)

    -- and where the line has it, its place is one with a trip of this number
    place_is : (i : ℕ) → i < length (lines t) → has_trip v number i ≡ true
        → (place_in i < length (get_or (lines t) i []))
        × (number_of timetable (get_or (get_or (lines t) i []) (place_in i) 0) ≡ number)
    place_is i listed has =
        let l = told.line i listed in
        let below = ltb-true (place_in i) (line_at v i).trips has in
        let on : place_in i < length (get_or (lines t) i []) = omega (arith, l.trips) in
        let passes = first_passes (is_number i) 0 (line_at v i).trips (omega arith) in
        let is = eqb-true (number_at v (line_at v i) (place_in i)) number passes in
        (on, sym (l.number (place_in i) on) ∙ is)

    it_stands : (z : ℕ) → z < length t → number_of timetable z ≡ number → stands v number ≡ true
    it_stands z h same =
        let o = line_of_lem t z h in
        let i = placed [] o.listed in
        let j : Placed z 0 (get_or (lines t) i.at []) = subst (Placed z 0) (sym i.is) (placed 0 o.member) in
        let has = line_has z i.at same i.inside j in
        let count = told.line_count_lem in
        let inside : i.at < 0 + line_count v = omega (arith, i.inside) in
        let below = first_there (has_trip v number) 0 (line_count v) i.at (omega arith) inside has in
        lt-ltb (home_line v number) (line_count v) (omega arith)

    homed : stands v number ≡ true → Homed v timetable number
    unfolding home_of
    homed has =
        let first = home_line v number in
        let below = ltb-true first (line_count v) has in
        let listed : first < length (lines t) = omega (arith, told.line_count_lem) in
        let p = place_is first listed (first_passes (has_trip v number) 0 (line_count v) (omega arith)) in
        record {
          line = first;
          place = place_in first;
          listed = listed;
          on = p.0;
          same = p.1;
          is = rw has;
        }

  -- the trip that stands there
  abbrev trip_at : (number : ℕ) → Homed v timetable number → ℕ
  trip_at number home = get_or (get_or (lines t) home.line []) home.place 0

  trip_on_lem : (number : ℕ) (home : Homed v timetable number) → trip_at number home ∈ get_or (lines t) home.line []
  trip_on_lem number home = within (get_or (lines t) home.line []) home.place 0 home.on

  trip_there : (number : ℕ) (home : Homed v timetable number) → trip_at number home < length t
  trip_there number home =
      trip_listed t (trip_at number home)
      (record {
        line = get_or (lines t) home.line [];
        listed = within (lines t) home.line [] home.listed;
        member = trip_on_lem number home;
      })

  -- ---- the trip that is drawn there is the timetable's
  module _ (number : ℕ) (home : Homed v timetable number)
      (okay : valid timetable ≡ true)
      (sound : valid_trip (length timetable.stations) (get_or t (trip_at number home) []) ≡ true) where
    abbrev n : ℕ
    n = length timetable.stations

    abbrev z : ℕ
    z = trip_at number home

    abbrev line : List ℕ
    line = get_or (lines t) home.line []

    abbrev trip : Trip
    trip = get_or t z []

    abbrev found : Home
    found = record { line = line_at v home.line; place = home.place }

    line_told : LineTold v timetable home.line line
    line_told = told.line home.line home.listed

    good : Line t line
    good = lines_good t line (within (lines t) home.line [] home.listed)

    member : z ∈ line
    member = trip_on_lem number home

    long : length (course t line) ≡ length trip
    long = line_length t line z good member

    points_drawn : (p : ℕ) → p < length trip → next_points v found.line p ≡ (get_or trip p no_stop).points
    points_drawn p h =
        let same = (line_stop t line z p good member).points in
        elim (ℕ_discrete (p + 1) (length trip)) [
          | yes e ↦
              last_drawn v timetable home.line line line_told p (omega (arith, long))
              ∙ sym (trip_free n no_stop trip sound p e)
          | no e ↦
              next_drawn v timetable home.line line line_told p (omega (arith, long))
              (omega (arith, same, trip_cheap n no_stop trip sound p h))
              ∙ same
        ]

    drawn_stop : (p : ℕ) → p < length trip → stop_on v found p ≡ get_or trip p no_stop
    drawn_stop p h =
        let j = home.place in
        let on = home.on in
        let course-stop = line_stop t line z p good member in
        let inside : p < length (course t line) = omega (arith, long) in
        let few = station_few timetable okay home.line home.listed p inside in
        let station = line_station v timetable home.line line line_told p inside few ∙ course-stop.station in
        let mark = line_mark_lem v timetable home.line line line_told p inside few ∙ course-stop.mark in
        let points = points_drawn p h in
        let arrive = line_told.arrive p j inside on in
        let depart = line_told.depart p j inside on in
        λ i. record { station = station i; arrive = arrive i; depart = depart i; points = points i; mark = mark i }

    drawn_there : trip_on v (home_of v number) ≡ trip
    unfolding trip_on
    drawn_there =
        ap (trip_on v) home.is
        ∙ ap (λ k. map (stop_on v found) (range 0 k)) (line_told.positions ∙ long)
        ∙ read_all no_stop (stop_on v found) trip drawn_stop

  -- ---- the numbers that are drawn are the timetable's
  module _ (ok : T (valid timetable)) where
    climbs : T (climb 0 timetable.numbers)
    unfolding valid numbered
    climbs = search reads

    -- a number of the timetable is that of a trip
    trip_of : (x : ℕ) (m : x ∈ timetable.numbers) → (placed 0 m).at < length t
    trip_of x m = omega (arith, (placed 0 m).inside, numbers_many timetable ok)

    all_exact : Exact (stands v) 0 number_most timetable.numbers
    all_exact =
        record {
          climbs = climbs;
          passes = (λ x m. it_stands x (placed 0 m).at (trip_of x m) (placed 0 m).is);
          near = (λ x m. omega (arith, (placed 0 m).is, number_most_lem timetable ok (placed 0 m).at (trip_of x m)));
          all =
              (λ x g h has. let home = homed x has in
              subst (λ y. y ∈ timetable.numbers) home.same
              (within timetable.numbers (trip_at x home) 0
              (omega (arith, trip_there x home, numbers_many timetable ok))));
        }

    numbers_drawn : drawn_numbers v ≡ timetable.numbers
    unfolding drawn_numbers
    numbers_drawn = numbers_picked v 0 number_most timetable.numbers all_exact

    all_valid : valid_trips (length timetable.stations) t ≡ true
    unfolding valid
    all_valid = T_true (valid_trips (length timetable.stations) t) (search reads)

    drawn_trip_lem : (z : ℕ) → z < length t → drawn_trip v z ≡ get_or t z []
    drawn_trip_lem z h =
        let number = number_of timetable z in
        let home = homed number (it_stands number z h refl) in
        let there = trip_there number home in
        let is : trip_at number home ≡ z = number_unique timetable ok (trip_at number home) z there h home.same in
        let sound = trip_valid (length timetable.stations) t (trip_at number home) [] all_valid there in
        ap (λ l. trip_on v (home_of v (get_or l z 0))) numbers_drawn
        ∙ drawn_there number home (T_true (valid timetable) ok) sound
        ∙ ap (λ k. get_or t k []) is

-- ---- what is drawn: numbers and trips of the timetable, and as many stations, which say nothing of changes, and no
-- walks
abbrev pub plain : Timetable → Timetable
plain t =
    record {
      stations = replicate (length t.stations) plain_station;
      walks = [];
      numbers = t.numbers;
      trips = t.trips;
    }

pub redrawn : (v : List ℕ) (t : Timetable) → Told v t → valid t ≡ true → drawn v ≡ plain t
unfolding drawn
redrawn v t told sound =
    let ok : T (valid t) = subst T (sym sound) tt in
    let numbers = numbers_drawn v t told ok in
    let many = ap length numbers ∙ numbers_many t ok in
    let trips =
    ap (λ k. map (drawn_trip v) (range 0 k)) many ∙ read_all [] (drawn_trip v) t.trips (drawn_trip_lem v t told ok) in
    λ i.
    record {
      stations = replicate (told.stations i) plain_station;
      walks = [];
      numbers = numbers i;
      trips = trips i;
    }
