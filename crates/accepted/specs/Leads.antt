-- Reading, cancelling and adding lead to exactly the valid timetables: `led_valid` and `valid_led`. A valid timetable
-- is led to by a text of its stations and walks alone, and then its trips are added, in rising number.
use Rattle.std.specs.Prelude.{◌≡◌, refl, true, false, List, [], ◌∷◌, ◌++◌, ℕ, suc, ◌+◌, ◌≤◌, ◌<◌, length}
use Rattle.std.proofs.Common.{ap, subst, ◌∙◌, append-nil, length-append, arith, lt-ltb, ne_eqb}
use Rattle.std.proofs.Math.Seq.{append_snoc, take-length, drop-length}
use Rattle.lists.specs.Tests.{and_left, and_right}
use Rattle.timetable.specs.Timetable.{Station, Walk, Trip, Timetable, stops_of, number_most, valid_trip, valid_trips}
use Rattle.timetable.specs.Timetable.{climb, valid}
use Rattle.timetable.specs.WordLaws.{stops_of_append}
use Rattle.timetable.specs.Changes.{inserted, runs_as, place_of, added}
use Rattle.accepted.specs.Lists.{snoc_length}
use Rattle.accepted.specs.Valid.{is_valid}
use Rattle.accepted.specs.Sound.{accepted_valid}
use Rattle.accepted.specs.Changed.{climb_first, climb_within, climb_rest, cancelled_valid, Addable}
use Rattle.accepted.specs.Extra.{extra_valid}
use Rattle.accepted.specs.WrittenOut.{stop_lines, net_lines, net_text, trip_text}
use Rattle.accepted.specs.Taken.{no_trips, net_accepted, net_bytes, one_trip, trip_accepted, trip_bytes}
use Rattle.accepted.specs.Led.{Led, by_reading, by_cancelling, by_adding}

pub led_valid : {t : Timetable} → Led t → valid t ≡ true
led_valid (by_reading text t lines b e) = accepted_valid text t lines e
led_valid (by_cancelling t n l r) = cancelled_valid t n (led_valid l)
led_valid (by_adding t n text one lines l f b e) = extra_valid t n text (led_valid l) one lines e f

-- ---- a number above all those before it
record Next (a : ℕ) (l : List ℕ) (n : ℕ) : Type 0 where
  above : a < n
  most : n ≤ number_most
  place : place_of n l ≡ length l
  free : runs_as n l ≡ false

next : (a : ℕ) (l : List ℕ) (n : ℕ) (more : List ℕ) → climb a (l ++ n ∷ more) ≡ true → Next a l n
unfolding place_of runs_as
next a [] n more c =
    record { above = climb_first a n more c; most = climb_within a n more c; place = refl; free = refl }
next a (m ∷ l) n more c =
    let rest = next m l n more (climb_rest a m (l ++ n ∷ more) c) in
    let first = climb_first a m (l ++ n ∷ more) c in
    record {
      above = omega (arith, rest.above);
      most = rest.most;
      place = rw (lt-ltb m n rest.above) (ap suc rest.place);
      free = rw (ne_eqb m n (λ e. omega (arith, rest.above))) rest.free;
    }

inserted_last : {A : Type 0} (k : ℕ) (x : A) (l : List A) → k ≡ length l → inserted k x l ≡ l ++ (x ∷ [])
inserted_last k x l e = ap (λ j. inserted j x l) e ∙ rw (take-length l, drop-length l)

trip_among : (n : ℕ) (done : List Trip) (x : Trip) (l : List Trip) → valid_trips n (done ++ x ∷ l) ≡ true
    → valid_trip n x ≡ true
unfolding valid_trips
trip_among n [] x l v = search (and_left)
trip_among n (t ∷ done) x l v = trip_among n done x l (search (and_right))

-- ---- trip by trip
abbrev timetable : List Station → List Walk → List ℕ → List Trip → Timetable
timetable stations walks numbers trips =
    record { stations = stations; walks = walks; numbers = numbers; trips = trips }

module _ (stations : List Station) (walks : List Walk) (before : List ℕ) (done : List Trip)
    (many : length before ≡ length done) (n : ℕ) (x : Trip) (ns : List ℕ) (l : List Trip)
    (v : valid (timetable stations walks (before ++ n ∷ ns) (done ++ x ∷ l)) ≡ true)
  where
    here : Next 0 before n
    here = next 0 before n ns (is_valid _ v).climbs

    addable : Addable (timetable stations walks before done) n x
    addable =
        let w = is_valid _ v in
        let stops : length (stops_of (done ++ x ∷ l)) ≡ length (stops_of done) + (length x + length (stops_of l)) =
        ap length (stops_of_append done (x ∷ l)) ∙ simp length-append in
        record {
          least = here.above;
          most = here.most;
          free = here.free;
          trips = omega (arith, w.trips, length-append done (x ∷ l));
          stops = omega (arith, w.stops);
          trip = trip_among (length stations) done x l w.each_trip;
        }

    added_last : added (timetable stations walks before done) n x
        ≡ timetable stations walks (before ++ (n ∷ [])) (done ++ (x ∷ []))
    unfolding added
    added_last =
        let numbers = inserted_last (place_of n before) n before here.place in
        let trips = inserted_last (place_of n before) x done (here.place ∙ many) in
        λ i. timetable stations walks (numbers i) (trips i)

    led_more : Led (timetable stations walks before done)
        → Led (timetable stations walks (before ++ (n ∷ [])) (done ++ (x ∷ [])))
    led_more led =
        let t = timetable stations walks before done in
        subst Led added_last
        (by_adding t n (trip_text n x) (one_trip stations n x) (length (stop_lines n 1 x)) led here.free
        (trip_bytes t (is_valid _ v).stations n x addable) (trip_accepted t (is_valid _ v).stations n x addable))

led_on : (stations : List Station) (walks : List Walk) (before : List ℕ) (done : List Trip) (ns : List ℕ)
    (l : List Trip) → length before ≡ length done → length ns ≡ length l → Led (timetable stations walks before done)
    → valid (timetable stations walks (before ++ ns) (done ++ l)) ≡ true
    → Led (timetable stations walks (before ++ ns) (done ++ l))
led_on stations walks before done [] [] many same led v = rw (append-nil before, append-nil done) led
led_on stations walks before done [] (x ∷ l) many same led v = absurd (omega arith)
led_on stations walks before done (n ∷ ns) [] many same led v = absurd (omega arith)
led_on stations walks before done (n ∷ ns) (x ∷ l) many same led v =
    let one-before = snoc_length before n in
    let one-done = snoc_length done x in
    let on : valid (timetable stations walks (before ++ (n ∷ []) ++ ns) (done ++ (x ∷ []) ++ l)) ≡ true =
    rw (append_snoc before n ns, append_snoc done x l) v in
    rw (← append_snoc before n ns, ← append_snoc done x l)
    (led_on stations walks (before ++ (n ∷ [])) (done ++ (x ∷ [])) ns l (omega arith) (omega arith)
    (led_more stations walks before done many n x ns l v led) on)

pub valid_led : (t : Timetable) → valid t ≡ true → Led t
valid_led t v =
    let w = is_valid t v in
    let s = t.stations in
    let l = t.walks in
    led_on s l [] [] t.numbers t.trips refl w.numbers
    (by_reading (net_text s l) (no_trips s l) (length (net_lines s l))
    (net_bytes s l w.each_station w.least w.stations w.each_walk w.walks)
    (net_accepted s l w.each_station w.least w.stations w.each_walk w.walks))
    v
