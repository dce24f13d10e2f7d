-- A valid timetable stays valid without a trip, and with one more that is valid, has a free number from 1 to 9,999 and
-- keeps to the counts.
use Rattle.std.specs.Prelude.{◌≡◌, refl, Bool, true, false, cond, ◌||◌, List, [], ◌∷◌, ℕ, zero, suc, ◌+◌, ◌≤◌, ◌<◌, ltb}
use Rattle.std.specs.Prelude.{eqb, length}
use Rattle.std.proofs.Common.{sym, length-append, arith, leb-true, ltb-true, ltb-false, le-leb, lt-ltb}
use Rattle.std.proofs.lemmas.Bool.{false≢true, eqb-false}
use Rattle.lists.specs.Tests.{and_left, and_right, and_both}
use Rattle.timetable.specs.Timetable.{Trip, Timetable, stops_of, trips_most, stops_most, number_most, valid_trip}
use Rattle.timetable.specs.Timetable.{valid_trips}
use Rattle.timetable.specs.Timetable.{climb, valid}
use Rattle.timetable.specs.Changes.{without, inserted, runs_as, place_of, cancelled, added}
use Rattle.accepted.specs.Valid.{is_valid, valid_is}

-- ---- numbers that rise
module _ (a n : ℕ) (l : List ℕ) (c : climb a (n ∷ l) ≡ true) where
  pub climb_first : a < n
  unfolding climb
  climb_first = search (and_left, ltb-true)

  pub climb_within : n ≤ number_most
  unfolding climb
  climb_within = search (and_left, and_right, leb-true)

  pub climb_rest : climb n l ≡ true
  unfolding climb
  climb_rest = search (and_right)

pub climb_more : (a n : ℕ) (l : List ℕ) → a < n → n ≤ number_most → climb n l ≡ true → climb a (n ∷ l) ≡ true
unfolding climb
climb_more a n l h g c = simp (lt-ltb a n h, le-leb n number_most g, c)

climb_none : (a : ℕ) → climb a [] ≡ true
unfolding climb
climb_none a = refl

climb_lower : (a b : ℕ) (l : List ℕ) → a ≤ b → climb b l ≡ true → climb a l ≡ true
unfolding climb
climb_lower a b [] h c = refl
climb_lower a b (n ∷ l) h c =
    climb_more a n l (omega (arith, climb_first b n l c)) (climb_within b n l c) (climb_rest b n l c)

-- ---- without one
length_without : {A B : Type 0} (k : ℕ) (a : List A) (b : List B) → length a ≡ length b
    → length (without k a) ≡ length (without k b)
length_without zero [] [] e = refl
length_without zero [] (y ∷ b) e = absurd (omega arith)
length_without zero (x ∷ a) [] e = absurd (omega arith)
length_without zero (x ∷ a) (y ∷ b) e = omega arith
length_without (suc k) [] [] e = refl
length_without (suc k) [] (y ∷ b) e = absurd (omega arith)
length_without (suc k) (x ∷ a) [] e = absurd (omega arith)
length_without (suc k) (x ∷ a) (y ∷ b) e = omega (arith, length_without k a b (omega arith))

fewer : {A : Type 0} (k : ℕ) (l : List A) → length (without k l) ≤ length l
fewer zero [] = omega arith
fewer zero (x ∷ l) = omega arith
fewer (suc k) [] = omega arith
fewer (suc k) (x ∷ l) = omega (arith, fewer k l)

climb_without : (k a : ℕ) (l : List ℕ) → climb a l ≡ true → climb a (without k l) ≡ true
climb_without zero a [] c = c
climb_without zero a (n ∷ l) c =
    let h = climb_first a n l c in
    climb_lower a n l (omega arith) (climb_rest a n l c)
climb_without (suc k) a [] c = c
climb_without (suc k) a (n ∷ l) c =
    climb_more a n (without k l) (climb_first a n l c) (climb_within a n l c) (climb_without k n l (climb_rest a n l c))

fewer_stops : (k : ℕ) (l : List Trip) → length (stops_of (without k l)) ≤ length (stops_of l)
fewer_stops zero [] = omega arith
fewer_stops zero (t ∷ l) = omega (arith, length-append t (stops_of l))
fewer_stops (suc k) [] = omega arith
fewer_stops (suc k) (t ∷ l) =
    omega (arith, length-append t (stops_of l), length-append t (stops_of (without k l)), fewer_stops k l)

trips_without : (n k : ℕ) (l : List Trip) → valid_trips n l ≡ true → valid_trips n (without k l) ≡ true
unfolding valid_trips
trips_without n zero [] v = refl
trips_without n zero (t ∷ l) v = search (and_right)
trips_without n (suc k) [] v = refl
trips_without n (suc k) (t ∷ l) v =
    let rest = trips_without n k l (search (and_right)) in
    search (and_both, and_left)

pub cancelled_valid : (t : Timetable) (n : ℕ) → valid t ≡ true → valid (cancelled t n) ≡ true
unfolding cancelled
cancelled_valid t n v =
    let w = is_valid t v in
    let k = place_of n t.numbers in
    valid_is (cancelled t n)
    (record {
      least = w.least;
      stations = w.stations;
      walks = w.walks;
      trips = omega (arith, fewer k t.trips);
      stops = omega (arith, fewer_stops k t.trips);
      numbers = length_without k t.numbers t.trips w.numbers;
      climbs = climb_without k 0 t.numbers w.climbs;
      each_station = w.each_station;
      each_walk = w.each_walk;
      each_trip = trips_without (length t.stations) k t.trips w.each_trip;
    })

-- ---- with one more
length_inserted : {A : Type 0} (k : ℕ) (x : A) (l : List A) → length (inserted k x l) ≡ suc (length l)
length_inserted zero x l = refl
length_inserted (suc k) x [] = refl
length_inserted (suc k) x (y ∷ l) = omega (arith, length_inserted k x l)

stops_inserted : (k : ℕ) (x : Trip) (l : List Trip)
    → length (stops_of (inserted k x l)) ≡ length (stops_of l) + length x
stops_inserted zero x l = omega (arith, length-append x (stops_of l))
stops_inserted (suc k) x [] = omega (arith, length-append x [])
stops_inserted (suc k) x (t ∷ l) =
    omega (arith, length-append t (stops_of l), length-append t (stops_of (inserted k x l)), stops_inserted k x l)

trips_inserted : (n k : ℕ) (x : Trip) (l : List Trip) → valid_trip n x ≡ true → valid_trips n l ≡ true
    → valid_trips n (inserted k x l) ≡ true
unfolding valid_trips
trips_inserted n zero x l w v = search (and_both)
trips_inserted n (suc k) x [] w v = search (and_both)
trips_inserted n (suc k) x (t ∷ l) w v =
    let rest = trips_inserted n k x l w (search (and_right)) in
    search (and_both, and_left)

-- a number that does not run
other_first : (m n : ℕ) (l : List ℕ) → runs_as n (m ∷ l) ≡ false → (m ≡ n → ⊥) × (runs_as n l ≡ false)
unfolding runs_as
other_first m n l f = apart (eqb m n) (runs_as n l) refl f
  where
    apart : (a b : Bool) → eqb m n ≡ a → (a || b) ≡ false → (m ≡ n → ⊥) × (b ≡ false)
    apart true b e g = absurd (false≢true (sym g))
    apart false b e g = (eqb-false m n e, g)

climb_inserted : (a n : ℕ) (l : List ℕ) → a < n → n ≤ number_most → climb a l ≡ true → runs_as n l ≡ false
    → climb a (inserted (place_of n l) n l) ≡ true
unfolding place_of
climb_inserted a n [] h g c f = climb_more a n [] h g (climb_none n)
climb_inserted a n (m ∷ l) h g c f =
    by_order (ltb m n) refl (λ e. climb_inserted m n l e g (climb_rest a m l c) (other_first m n l f).1)
  where
    by_order : (b : Bool) → ltb m n ≡ b → (m < n → climb m (inserted (place_of n l) n l) ≡ true)
        → climb a (inserted (cond b (suc (place_of n l)) 0) n (m ∷ l)) ≡ true
    by_order true e above =
        climb_more a m (inserted (place_of n l) n l) (climb_first a m l c) (climb_within a m l c)
        (above (ltb-true m n e))
    by_order false e above =
        let least : n ≤ m = ltb-false m n e in
        let other : m ≡ n → ⊥ = (other_first m n l f).0 in
        climb_more a n (m ∷ l) h g (climb_more n m l (omega arith) (climb_within a m l c) (climb_rest a m l c))

-- a trip that may be added to timetable t under number n
pub record Addable (t : Timetable) (n : ℕ) (x : Trip) : Type 0 where
  pub least : 1 ≤ n
  pub most : n ≤ number_most
  pub free : runs_as n t.numbers ≡ false
  pub trips : length t.trips < trips_most
  pub stops : length (stops_of t.trips) + length x ≤ stops_most
  pub trip : valid_trip (length t.stations) x ≡ true

pub added_valid : (t : Timetable) (n : ℕ) (x : Trip) → valid t ≡ true → Addable t n x → valid (added t n x) ≡ true
unfolding added
added_valid t n x v h =
    let w = is_valid t v in
    let k = place_of n t.numbers in
    valid_is (added t n x)
    (record {
      least = w.least;
      stations = w.stations;
      walks = w.walks;
      trips = omega (arith, length_inserted k x t.trips, h.trips);
      stops = omega (arith, stops_inserted k x t.trips, h.stops);
      numbers = omega (arith, length_inserted k n t.numbers, length_inserted k x t.trips, w.numbers);
      climbs = climb_inserted 0 n t.numbers h.least h.most w.climbs h.free;
      each_station = w.each_station;
      each_walk = w.each_walk;
      each_trip = trips_inserted (length t.stations) k x t.trips h.trip w.each_trip;
    })
