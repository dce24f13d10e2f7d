-- From words with a yes to question 9 to the timetable that they spell: its bounds, and each of its stations, trips and
-- stops. Callers use these laws, never the places of words.
use Rattle.std.specs.Prelude.{◌≡◌, Bool, false, ◌&&◌, length, get_or}
use Rattle.std.proofs.Common.{sym, ◌∙◌, add-one, arith}
use Rattle.std.proofs.Math.Path.{ap}
use Rattle.std.proofs.Math.Bool.{true}
use Rattle.std.proofs.lemmas.Bool.{false≢true}
use mathlib.Core.List.{List, [], ◌∷◌, map}
use Prim.Native.Nat.{ℕ, zero, suc, ◌+◌, ◌-◌, ◌≤◌, ◌<◌}
use borrow.Author.Tests.{leb-true, eqb-true}
use Rattle.std.proofs.Math.Dec.{leb, eqb}
use Rattle.lists.specs.Lists.{range}
use Rattle.lists.specs.Tests.{and_left, and_right}
use Rattle.timetable.specs.Timetable.{
  Station,
  Stop,
  Trip,
  number_of,
  last_minute,
  listed,
  marked,
  leaves,
  ends,
  follows,
  valid_trip,
  valid_trips,
  runs,
  valid,
}
use Rattle.timetable.specs.Words.{
  station_count,
  trip_count,
  stop_count,
  station_at,
  stop_at,
  start_at,
  trip_at,
  number_at,
  timetable_of,
  rise,
  chained,
  footed,
  is_timetable,
}
use Rattle.timetable.specs.Check.{length_trips, length_trip, zeroed, rising, decision, decided}

-- the numbers from k on, one by one
pub map_numbers : {A : Type 0} (f : ℕ → A) (k n i : ℕ) (d : A) → i < n → get_or (map f (range k n)) i d ≡ f (k + i)
map_numbers f k zero i d h = absurd (omega arith)
map_numbers f k (suc n) zero d h = ap f (omega arith)
map_numbers f k (suc n) (suc i) d h = map_numbers f (suc k) n i d (omega arith) ∙ ap f (omega arith)

module _ (w : List ℕ) where
  -- a station, a trip and a stop of the timetable are those that stand in the words
  pub station_is : (i : ℕ) (d : Station) → i < station_count w → get_or (timetable_of w).stations i d ≡ station_at w i
  unfolding timetable_of
  station_is i d h = map_numbers (station_at w) 0 (station_count w) i d h ∙ ap (station_at w) (omega arith)

  pub trip_is : (k : ℕ) (d : Trip) → k < trip_count w → get_or (timetable_of w).trips k d ≡ trip_at w k
  unfolding timetable_of
  trip_is k d h = map_numbers (trip_at w) 0 (trip_count w) k d h ∙ ap (trip_at w) (omega arith)

  pub number_is : (k : ℕ) → k < trip_count w → number_of (timetable_of w) k ≡ number_at w k
  unfolding timetable_of
  number_is k h = map_numbers (number_at w) 0 (trip_count w) k 0 h ∙ ap (number_at w) (omega arith)

  pub trip_long : (k : ℕ) → length (trip_at w k) ≡ start_at w (k + 1) - start_at w k
  trip_long k = length_trip w k ∙ ap (λ j. start_at w j - start_at w k) (sym (add-one k))

  pub stop_is : (k p : ℕ) (d : Stop) → p < start_at w (k + 1) - start_at w k
      → get_or (trip_at w k) p d ≡ stop_at w (start_at w k + p)
  unfolding trip_at
  stop_is k p d h = map_numbers (stop_at w) (start_at w k) (start_at w (k + 1) - start_at w k) p d h

-- ---- trips of a valid timetable have two stops at least
two_stops : (n : ℕ) (t : Trip) → valid_trip n t ≡ true → 2 ≤ length t
unfolding valid_trip runs
two_stops n [] e = absurd (false≢true e)
two_stops n (s ∷ []) e = absurd (false≢true (and_right (listed n s && eqb s.arrive 0 && leaves s) false e))
two_stops n (s ∷ u ∷ l) e = omega arith

pub trip_valid : (n : ℕ) (l : List Trip) (k : ℕ) (d : Trip) → valid_trips n l ≡ true → k < length l
    → valid_trip n (get_or l k d) ≡ true
unfolding valid_trips
trip_valid n [] k d e h = absurd (omega arith)
trip_valid n (t ∷ l) zero d e h = and_left (valid_trip n t) (valid_trips n l) e
trip_valid n (t ∷ l) (suc k) d e h = trip_valid n l k d (and_right (valid_trip n t) (valid_trips n l) e) (omega arith)

-- ---- ride penalties of a valid timetable: none is above 100, and at a trip's last stop there is none; and marks: none
-- is above 2
leaves_cheap : (s : Stop) → leaves s ≡ true → s.points ≤ 100
unfolding leaves
leaves_cheap s e =
    let goes = leb s.depart last_minute in
    let cheap = leb s.points 100 in
    leb-true s.points 100 (and_right goes cheap (and_left (goes && cheap) (marked s) e))

ends_free : (s : Stop) → ends s ≡ true → s.points ≡ 0
unfolding ends
ends_free s e =
    let stays = eqb s.depart 0 in
    eqb-true s.points 0 (and_right stays (eqb s.points 0) (and_left (stays && eqb s.points 0) (marked s) e))

leaves_marked : (s : Stop) → leaves s ≡ true → s.mark ≤ 2
unfolding leaves
leaves_marked s e = leb-true s.mark 2 (and_right (leb s.depart last_minute && leb s.points 100) (marked s) e)

ends_marked : (s : Stop) → ends s ≡ true → s.mark ≤ 2
unfolding ends
ends_marked s e = leb-true s.mark 2 (and_right (eqb s.depart 0 && eqb s.points 0) (marked s) e)

-- what holds of stops that their trip leaves and of those that end it, holds of all stops of a trip
module _
    (n : ℕ)
    (d : Stop)
    (P : Stop → Type 0)
    (going : (s : Stop) → leaves s ≡ true → P s)
    (ending : (s : Stop) → ends s ≡ true → P s)
  where
    run_all : (b : Stop) (l : List Stop) → runs n b l ≡ true → (p : ℕ) → p < length l → P (get_or l p d)
    unfolding runs
    run_all b [] e p h = absurd (omega arith)
    run_all b (s ∷ []) e zero h = ending s (and_right (follows n b s) (ends s) e)
    run_all b (s ∷ []) e (suc p) h = absurd (omega arith)
    run_all b (s ∷ u ∷ l) e zero h =
        let came = follows n b s && leb s.arrive s.depart in
        going s (and_right came (leaves s) (and_left (came && leaves s) (runs n s (u ∷ l)) e))
    run_all b (s ∷ u ∷ l) e (suc p) h =
        let came = follows n b s && leb s.arrive s.depart in
        run_all s (u ∷ l) (and_right (came && leaves s) (runs n s (u ∷ l)) e) p (omega arith)

    trip_all : (t : Trip) → valid_trip n t ≡ true → (p : ℕ) → p < length t → P (get_or t p d)
    unfolding valid_trip
    trip_all [] e p h = absurd (omega arith)
    trip_all (s ∷ l) e zero h =
        let here = listed n s && eqb s.arrive 0 in
        going s (and_right here (leaves s) (and_left (here && leaves s) (runs n s l) e))
    trip_all (s ∷ l) e (suc p) h =
        run_all s l (and_right (listed n s && eqb s.arrive 0 && leaves s) (runs n s l) e) p (omega arith)

module _ (n : ℕ) (d : Stop) where
  run_free : (b : Stop) (l : List Stop) → runs n b l ≡ true → (p : ℕ) → p + 1 ≡ length l → (get_or l p d).points ≡ 0
  unfolding runs
  run_free b [] e p h = absurd (omega arith)
  run_free b (s ∷ []) e zero h = ends_free s (and_right (follows n b s) (ends s) e)
  run_free b (s ∷ []) e (suc p) h = absurd (omega arith)
  run_free b (s ∷ u ∷ l) e zero h = absurd (omega arith)
  run_free b (s ∷ u ∷ l) e (suc p) h =
      let came = follows n b s && leb s.arrive s.depart in
      run_free s (u ∷ l) (and_right (came && leaves s) (runs n s (u ∷ l)) e) p (omega arith)

  pub trip_cheap : (t : Trip) → valid_trip n t ≡ true → (p : ℕ) → p < length t → (get_or t p d).points ≤ 100
  trip_cheap = trip_all n d (λ s. s.points ≤ 100) leaves_cheap (λ s e. omega (arith, ends_free s e))

  pub trip_marked : (t : Trip) → valid_trip n t ≡ true → (p : ℕ) → p < length t → (get_or t p d).mark ≤ 2
  trip_marked = trip_all n d (λ s. s.mark ≤ 2) leaves_marked ends_marked

  pub trip_free : (t : Trip) → valid_trip n t ≡ true → (p : ℕ) → p + 1 ≡ length t → (get_or t p d).points ≡ 0
  unfolding valid_trip
  trip_free [] e p h = absurd (omega arith)
  trip_free (s ∷ []) e zero h = absurd (omega (arith, two_stops n (s ∷ []) e))
  trip_free (s ∷ u ∷ l) e zero h = absurd (omega arith)
  trip_free (s ∷ l) e (suc p) h =
      run_free s l (and_right (listed n s && eqb s.arrive 0 && leaves s) (runs n s l) e) p (omega arith)

-- starts that rise to n are at most n, and the last of them is n
rise_at : (w : List ℕ) (k m n i : ℕ) → rise (start_at w k) (map (start_at w) (range (suc k) m)) n ≡ true → i ≤ m
    → start_at w (k + i) ≤ n
unfolding rise
rise_at w k zero n i e h =
    let here : k + i ≡ k = omega arith in
    omega (arith, eqb-true (start_at w k) n e, ap (start_at w) here)
rise_at w k (suc m) n zero e h =
    let up : Bool = leb (start_at w k) (start_at w (suc k)) in
    let rest : Bool = rise (start_at w (suc k)) (map (start_at w) (range (suc (suc k)) m)) n in
    let here : k + 0 ≡ k = omega arith in
    let next : suc k + 0 ≡ suc k = omega arith in
    let later = rise_at w (suc k) m n 0 (and_right up rest e) (omega arith) in
    omega (
      arith,
      leb-true (start_at w k) (start_at w (suc k)) (and_left up rest e),
      later,
      ap (start_at w) here,
      ap (start_at w) next,
    )
rise_at w k (suc m) n (suc i) e h =
    let up : Bool = leb (start_at w k) (start_at w (suc k)) in
    let rest : Bool = rise (start_at w (suc k)) (map (start_at w) (range (suc (suc k)) m)) n in
    let same : suc k + i ≡ k + suc i = omega arith in
    omega (arith, ap (start_at w) same, rise_at w (suc k) m n i (and_right up rest e) (omega arith))

rise_last : (w : List ℕ) (k m n : ℕ) → rise (start_at w k) (map (start_at w) (range (suc k) m)) n ≡ true
    → start_at w (k + m) ≡ n
unfolding rise
rise_last w k zero n e =
    let here : k + 0 ≡ k = omega arith in
    ap (start_at w) here ∙ eqb-true (start_at w k) n e
rise_last w k (suc m) n e =
    let up : Bool = leb (start_at w k) (start_at w (suc k)) in
    let rest : Bool = rise (start_at w (suc k)) (map (start_at w) (range (suc (suc k)) m)) n in
    let same : k + suc m ≡ suc k + m = omega arith in
    ap (start_at w) same ∙ rise_last w (suc k) m n (and_right up rest e)

-- ---- words with a yes
module _ (w : List ℕ) (yes : is_timetable w ≡ true) where
  pub spelled_valid : valid (timetable_of w) ≡ true
  unfolding is_timetable
  spelled_valid = search (and_left, and_right)

  pub is_chained : chained w ≡ true
  unfolding is_timetable
  is_chained = search and_left

  -- the counts of walks by station are those of the walks
  pub is_footed : footed w ≡ true
  unfolding is_timetable
  is_footed = search and_right

  pub start_first : start_at w 0 ≡ 0
  unfolding chained
  start_first = eqb-true (start_at w 0) 0 (and_left (zeroed w) (rising w) is_chained)

  rises : rise (start_at w 0) (map (start_at w) (range 1 (trip_count w))) (stop_count w) ≡ true
  unfolding chained
  rises = rw start_first (and_right (zeroed w) (rising w) is_chained)

  pub start_last : start_at w (trip_count w) ≡ stop_count w
  start_last =
      let same : 0 + trip_count w ≡ trip_count w = omega arith in
      sym (ap (start_at w) same) ∙ rise_last w 0 (trip_count w) (stop_count w) rises

  pub start_most : (k : ℕ) → k ≤ trip_count w → start_at w k ≤ stop_count w
  start_most k h =
      let same : 0 + k ≡ k = omega arith in
      omega (arith, ap (start_at w) same, rise_at w 0 (trip_count w) (stop_count w) k rises h)

  is_decided : decision w ≡ true
  is_decided = sym (decided w) ∙ yes

  pub record Counts : Type 0 where
    pub some_station : 1 ≤ station_count w
    pub stations : station_count w ≤ 64
    pub trips : trip_count w ≤ 256
    pub stops : stop_count w ≤ 2048

  pub counts : Counts
  counts =
      let d = is_decided in
      let s : leb 1 (station_count w) ≡ true = search and_left depth 12 in
      let m : leb (station_count w) 64 ≡ true = search (and_left, and_right) depth 12 in
      let t : leb (trip_count w) 256 ≡ true = search (and_left, and_right) depth 12 in
      let n : leb (stop_count w) 2048 ≡ true = search (and_left, and_right) depth 12 in
      record {
        some_station = leb-true 1 (station_count w) s;
        stations = leb-true (station_count w) 64 m;
        trips = leb-true (trip_count w) 256 t;
        stops = leb-true (stop_count w) 2048 n;
      }

  one_valid : (k : ℕ) → k < trip_count w
      → valid_trip (length (timetable_of w).stations) (get_or (timetable_of w).trips k []) ≡ true
  unfolding valid
  one_valid k h =
      let t = timetable_of w in
      let v = spelled_valid in
      let all : valid_trips (length t.stations) t.trips ≡ true = search and_right in
      trip_valid (length t.stations) t.trips k [] all (omega (arith, length_trips w))

  pub trip_stops_lem : (k : ℕ) → k < trip_count w → start_at w k + 2 ≤ start_at w (k + 1)
  trip_stops_lem k h =
      let t = timetable_of w in
      let two = two_stops (length t.stations) (get_or t.trips k []) (one_valid k h) in
      omega (arith, two, ap length (trip_is w k [] h), trip_long w k)

  module _ (k p : ℕ) (h : k < trip_count w) (g : start_at w k + p < start_at w (k + 1)) where
    -- the stop at place p of trip k, in the trip and in the words
    stop_both : get_or (get_or (timetable_of w).trips k []) p (stop_at w 0) ≡ stop_at w (start_at w k + p)
    stop_both = ap (λ l. get_or l p (stop_at w 0)) (trip_is w k [] h) ∙ stop_is w k p (stop_at w 0) (omega arith)

    inside : p < length (get_or (timetable_of w).trips k [])
    inside = omega (arith, ap length (trip_is w k [] h), trip_long w k)

    pub stop_cheap : (stop_at w (start_at w k + p)).points ≤ 100
    stop_cheap =
        let t = timetable_of w in
        let here = get_or t.trips k [] in
        let cheap = trip_cheap (length t.stations) (stop_at w 0) here (one_valid k h) p inside in
        omega (arith, cheap, ap (λ s. s.points) stop_both)

    pub stop_marked : (stop_at w (start_at w k + p)).mark ≤ 2
    stop_marked =
        let t = timetable_of w in
        let here = get_or t.trips k [] in
        let few = trip_marked (length t.stations) (stop_at w 0) here (one_valid k h) p inside in
        omega (arith, few, ap (λ s. s.mark) stop_both)

  pub stations_few : station_count w ≤ 64
  stations_few = counts.stations

  pub stops_few : stop_count w ≤ 2048
  stops_few = counts.stops

  pub trips_few : trip_count w ≤ 256
  trips_few = counts.trips
