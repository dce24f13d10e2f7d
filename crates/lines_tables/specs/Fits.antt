-- Line tables of a timetable within the limits fit 16,384 words. Each trip stands on one line, once, and has as many
-- stops as its line has positions: so the times of all lines are two words for each stop, and there are no more
-- positions than stops. Each position is listed for one station at most.
use Rattle.std.specs.Prelude.{◌≡◌, refl, Bool, true, false, List, [], ◌∷◌, ◌++◌, length}
use Rattle.std.proofs.Math.Path.{ap}
use Prim.Native.Nat.{ℕ, zero, suc, ◌+◌, ◌*◌, ◌≤◌, ◌<◌}
use Rattle.std.proofs.Common.{add-one, eq-eqb, ne_eqb, length-append}
use Rattle.std.proofs.Math.Decide.{ℕ_discrete}
use native.Mathlib.Omega.{arith}
use Rattle.std.proofs.lemmas.List.{length-map}
use Rattle.lists.specs.Lists.{range}
use Rattle.lists.specs.Ranges.{length_range}
use Rattle.timetable.specs.Timetable.{Trip}
use Rattle.timetable.specs.Words.{station_count, trip_count, stop_count, start_at, number_at, timetable_of}
use Rattle.timetable.specs.Words.{is_timetable}
use Rattle.timetable.specs.Check.{length_trips}
use Rattle.timetable.specs.Access.{trip_stops_lem, start_first, start_last, stations_few, trips_few, stops_few}
use Rattle.lines.specs.Lines.{lines, head_of}
use Rattle.lines.specs.Once.{on_lines, on_lines_lem, lines_distinct}
use Rattle.lines_tables.specs.Spelled.{all_lines}
use Rattle.lines_tables.specs.Sums.{sum_of, sum_append, sum_none, sum_least, sum_ones, sum_more, sum_lengths}
use Rattle.lines_tables.specs.Sums.{sum_distinct}
use Rattle.lines_tables.specs.Model.{call_at, time_of, calls_of, row_at, times_at, course_at, numbers_at, block_at}
use Rattle.lines_tables.specs.Model.{LineOf, AllLines, lines_at, sections, blocks_at, places_from, call_words}
use Rattle.lines_tables.specs.Model.{line_calls_at, station_calls, calls_at, pairs_at, pair_places, index_at, table_at}
use Rattle.lines_tables.specs.Model.{rest_lines}

-- ---- the lines of a timetable
module _ (w : List ℕ) (yes : is_timetable w ≡ true) where
  abbrev trips : List Trip
  trips = (timetable_of w).trips

  -- trips and stops of all lines are no more than the timetable's
  stops_from : (k n : ℕ) → k + n ≤ trip_count w → start_at w k + sum_of (calls_of w) (range k n) ≡ start_at w (k + n)
  unfolding sum_of
  stops_from k zero h =
      let same : k + 0 ≡ k = omega arith in
      omega (arith, ap (start_at w) same)
  stops_from k (suc n) h =
      let same : suc k + n ≡ k + suc n = omega arith in
      omega (
        arith,
        ap (start_at w) same,
        ap (start_at w) (add-one k),
        trip_stops_lem w yes k (omega arith),
        stops_from (suc k) n (omega arith),
      )

  on_once : (f : ℕ → ℕ) → sum_of f (on_lines (lines_at w)) ≤ sum_of f (range 0 (trip_count w))
  unfolding lines_at
  on_once f =
      sum_distinct f 0 (trip_count w) (on_lines (lines trips)) (lines_distinct trips)
      (λ z m. (omega arith, omega (arith, (on_lines_lem trips z).0 m, length_trips w)))

  pub trips_once : length (on_lines (lines_at w)) ≤ trip_count w
  trips_once =
      omega (
        arith,
        on_once (λ z. 1),
        sum_ones (on_lines (lines_at w)),
        sum_ones (range 0 (trip_count w)),
        length_range 0 (trip_count w),
      )

  pub stops_once : sum_of (calls_of w) (on_lines (lines_at w)) ≤ stop_count w
  stops_once =
      let all : 0 + trip_count w ≡ trip_count w = omega arith in
      omega (
        arith,
        on_once (calls_of w),
        stops_from 0 (trip_count w) (omega arith),
        ap (start_at w) all,
        start_first w yes,
        start_last w yes,
      )

-- ---- the words of one line
pub numbers_long : (w line : List ℕ) → length (numbers_at w line) ≡ length line
unfolding numbers_at
numbers_long w line = length-map line (number_at w)

pub course_long : (w : List ℕ) (z k n : ℕ) → length (course_at w z k n) ≡ 3 * n
unfolding course_at
course_long w z k zero = refl
course_long w z k (suc n) = omega (arith, course_long w z (suc k) n)

row_long : (w line : List ℕ) (departs : Bool) (p : ℕ) → length (row_at w departs p line) ≡ length line
unfolding row_at
row_long w line departs p = length-map line (λ z. time_of departs (call_at w z p))

-- two words for each place and trip
times_long : (w line : List ℕ) (k n : ℕ) → length (times_at w line k n) ≡ 2 * sum_of (λ z. n) line
unfolding times_at
times_long w line k zero = omega (arith, sum_none (λ z. 0) line (λ z. refl))
times_long w line k (suc n) =
    let arrivals = row_at w false k line in
    let departures = row_at w true k line in
    omega (
      arith,
      length-append (arrivals ++ departures) (times_at w line (suc k) n),
      length-append arrivals departures,
      row_long w line false k,
      row_long w line true k,
      times_long w line (suc k) n,
      sum_more n line,
    )

-- the first trip's stops are among those of all
first_stops : (w line : List ℕ) → 0 < length line → calls_of w (head_of line) ≤ sum_of (calls_of w) line
unfolding sum_of
first_stops w [] h = absurd (omega arith)
first_stops w (z ∷ line) h = omega arith

block_most : (w line : List ℕ) → LineOf w line
    → length (block_at w line) ≤ 2 + length line + 5 * sum_of (calls_of w) line
unfolding block_at
block_most w line is =
    let z = head_of line in
    let n = calls_of w z in
    omega (
      arith,
      length-append (numbers_at w line ++ course_at w z 0 n) (times_at w line 0 n),
      length-append (numbers_at w line) (course_at w z 0 n),
      numbers_long w line,
      course_long w z 0 n,
      times_long w line 0 n,
      first_stops w line is.some,
      sum_least (calls_of w) n line (λ j h. omega (arith, is.reaches.stops j h)),
    )

-- ---- the words of all lines
lines_most : (w : List ℕ) (ls : List (List ℕ)) → AllLines w ls → length ls ≤ length (on_lines ls)
lines_most w [] all = omega arith
lines_most w (l ∷ ls) all =
    omega (
      arith,
      length-append l (on_lines ls),
      (all.at 0 (omega arith)).some,
      lines_most w ls (rest_lines w l ls all),
    )

blocks_most : (w : List ℕ) (i : ℕ) (ls : List (List ℕ)) → AllLines w ls
    → length (sections (λ j l. block_at w l) i ls)
    ≤ 2 * length ls + length (on_lines ls) + 5 * sum_of (calls_of w) (on_lines ls)
unfolding sections
blocks_most w i [] all = omega arith
blocks_most w i (l ∷ ls) all =
    omega (
      arith,
      length-append (block_at w l) (sections (λ j x. block_at w x) (i + 1) ls),
      length-append l (on_lines ls),
      sum_append (calls_of w) l (on_lines ls),
      block_most w l (all.at 0 (omega arith)),
      blocks_most w (i + 1) ls (rest_lines w l ls all),
    )

pub places_long : (w : List ℕ) (k : ℕ) (ls : List (List ℕ)) → length (places_from w k ls) ≡ length ls
unfolding places_from
places_long w k [] = refl
places_long w k (l ∷ ls) = ap suc (places_long w (k + length (block_at w l)) ls)

-- ---- the words of all stations
-- a position is listed for one station at most
call_none : (x line p s n : ℕ) → x < s → sum_of (λ y. length (call_words x y line p)) (range s n) ≡ 0
unfolding sum_of
call_none x line p s zero h = refl
call_none x line p s (suc n) h =
    rw (ne_eqb x s (λ e. omega arith)) (omega (arith, call_none x line p (suc s) n (omega arith)))

call_once : (x line p s n : ℕ) → sum_of (λ y. length (call_words x y line p)) (range s n) ≤ 2
unfolding sum_of
call_once x line p s zero = omega arith
call_once x line p s (suc n) =
    elim (ℕ_discrete x s) [
      | yes e ↦ rw (eq-eqb x s e) (omega (arith, call_none x line p (suc s) n (omega arith)))
      | no e ↦ rw (ne_eqb x s e) (omega (arith, call_once x line p (suc s) n))
    ]

line_calls_most : (w : List ℕ) (z line k m s n : ℕ)
    → sum_of (λ y. length (line_calls_at w z line y k m)) (range s n) ≤ 2 * m
unfolding line_calls_at
line_calls_most w z line k zero s n = omega (arith, sum_none (λ y. 0) (range s n) (λ y. refl))
line_calls_most w z line k (suc m) s n =
    let x = (call_at w z k).station in
    omega (
      arith,
      sum_lengths (λ y. call_words x y line (k + 1)) (λ y. line_calls_at w z line y (suc k) m) (range s n),
      call_once x line (k + 1) s n,
      line_calls_most w z line (suc k) m s n,
    )

calls_most : (w : List ℕ) (i : ℕ) (ls : List (List ℕ)) (s n : ℕ) → AllLines w ls
    → sum_of (λ y. length (sections (station_calls w y) i ls)) (range s n) ≤ 2 * sum_of (calls_of w) (on_lines ls)
unfolding sections
calls_most w i [] s n all = omega (arith, sum_none (λ y. 0) (range s n) (λ y. refl))
calls_most w i (l ∷ ls) s n all =
    omega (
      arith,
      sum_lengths (λ y. station_calls w y i l) (λ y. sections (station_calls w y) (i + 1) ls) (range s n),
      sum_append (calls_of w) l (on_lines ls),
      line_calls_most w (head_of l) (i + 1) 0 (calls_of w (head_of l)) s n,
      first_stops w l (all.at 0 (omega arith)).some,
      calls_most w (i + 1) ls s n (rest_lines w l ls all),
    )

pairs_long : (w : List ℕ) (ls : List (List ℕ)) (s n : ℕ)
    → length (pairs_at w ls s n) ≡ sum_of (λ y. length (calls_at w y ls)) (range s n)
unfolding pairs_at sum_of
pairs_long w ls s zero = refl
pairs_long w ls s (suc n) =
    omega (
      arith,
      length-append (calls_at w s ls) (pairs_at w ls (s + 1) n),
      ap (λ k. length (pairs_at w ls k n)) (add-one s),
      pairs_long w ls (suc s) n,
    )

pub pair_places_long : (w : List ℕ) (ls : List (List ℕ)) (k s n : ℕ) → length (pair_places w ls k s n) ≡ n + 1
unfolding pair_places
pair_places_long w ls k s zero = refl
pair_places_long w ls k s (suc n) =
    omega (arith, pair_places_long w ls (k + length (calls_at w s ls)) (s + 1) n)

-- ---- the whole tables
table_long : (w : List ℕ)
    → length (table_at w) ≡ index_at w + station_count w + 1 + length (pairs_at w (lines_at w) 1 (station_count w))
unfolding table_at
table_long w =
    let ls = lines_at w in
    let n = station_count w in
    let places = places_from w (4 + length ls) ls in
    let firsts = pair_places w ls (index_at w + n + 1) 1 n in
    omega (
      arith,
      length-append (places ++ blocks_at w ls ++ firsts) (pairs_at w ls 1 n),
      length-append (places ++ blocks_at w ls) firsts,
      length-append places (blocks_at w ls),
      places_long w (4 + length ls) ls,
      pair_places_long w ls (index_at w + n + 1) 1 n,
    )

module _ (w : List ℕ) (yes : is_timetable w ≡ true) where
  pub lines_few : length (lines_at w) ≤ 256
  lines_few =
      omega (arith, lines_most w (lines_at w) (all_lines w yes), trips_once w yes, trips_few w yes)

  -- four words, three more for each line, one for each trip and five for each stop stand before the lists of stations
  pub index_few : index_at w ≤ 11268
  index_few =
      omega (
        arith,
        blocks_most w 0 (lines_at w) (all_lines w yes),
        lines_few,
        trips_once w yes,
        trips_few w yes,
        stops_once w yes,
        stops_few w yes,
      )

  pub pairs_few : length (pairs_at w (lines_at w) 1 (station_count w)) ≤ 4096
  pairs_few =
      omega (
        arith,
        pairs_long w (lines_at w) 1 (station_count w),
        calls_most w 0 (lines_at w) 1 (station_count w) (all_lines w yes),
        stops_once w yes,
        stops_few w yes,
      )

  pub table_most : length (table_at w) ≤ 15429
  table_most = omega (arith, table_long w, index_few, pairs_few, stations_few w yes)

  -- what code needs before it writes blocks, the lists of stations, and all
  pub blocks_fit : 4 + length (lines_at w) + length (blocks_at w (lines_at w)) ≤ 16384
  blocks_fit = omega (arith, index_few)

  pub pairs_fit : index_at w + station_count w + 1 + length (pairs_at w (lines_at w) 1 (station_count w)) ≤ 16384
  pairs_fit = omega (arith, table_long w, table_most)

  pub table_fits : length (table_at w) ≤ 16384
  table_fits = omega (arith, table_most)
