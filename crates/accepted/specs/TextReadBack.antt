-- The text written out from stations and walks, or from a trip, of a valid timetable falls into its lines again, and
-- each reads back to what was written. That of stations and walks has at most 64 * 14 + 256 * 16 = 4,992 bytes.
use Rattle.std.specs.Prelude.{◌≡◌, refl, true, false, ℕ, ◌+◌, ◌*◌, ◌≤◌, ◌<◌, length}
use Rattle.std.proofs.Common.{◌∙◌}
use Rattle.std.proofs.lemmas.Bool.{false≢true}
use mathlib.Core.List.{List, [], ◌∷◌, ◌++◌, map, map-append}
use Rattle.std.proofs.Math.ListN.{length-append}
use native.Mathlib.Omega.{arith}
use Rattle.lists.specs.Tests.{and_left, and_right, and_both}
use Rattle.text_shapes.specs.Shape.{shape_of}
use Rattle.text_shapes.specs.declared.Line.{Line}
use Rattle.timetable.specs.Timetable.{stations_most, walks_most, stops_most, number_most, Station, Walk, Stop, Trip}
use Rattle.timetable.specs.Timetable.{valid_station, valid_walks, leaves, ends, follows, runs, valid_trip}
use Rattle.timetable.specs.Timetable.{valid_stations}
use Rattle.accepted.specs.Valid.{Begins, first_ranges, inner_ranges, last_ranges, it_ends, runs_none}
use Rattle.accepted.specs.Valid.{runs_last, runs_on, begins, trip_not_empty}
use Rattle.accepted.specs.Marks.{above, all_above, lined}
use Rattle.accepted.specs.WrittenOut.{station_line, walk_line, station_lines, none_after, stop_lines, net_lines}
use Rattle.accepted.specs.WrittenOut.{net_text}
use Rattle.accepted.specs.LineReadBack.{station_read, walk_read, stop_read, station_shape_lem, station_above}
use Rattle.accepted.specs.LineReadBack.{station_short, walk_shape_lem, walk_above, walk_short, Writable, stop_shape_lem}
use Rattle.accepted.specs.LineReadBack.{stop_above}
use Rattle.accepted.specs.SoFar.{walk_first, walks_rest}

-- ---- lines as they are written: what is read from them, and no byte 10 within
pub record Written (lines : List (List ℕ)) (read : List Line) : Type 0 where
  pub shapes : map shape_of lines ≡ read
  pub plain : all_above 10 lines ≡ true

written_none : Written [] []
unfolding all_above
written_none = record { shapes = refl; plain = refl }

written_more : (s : List ℕ) (r : Line) (lines : List (List ℕ)) (read : List Line) → shape_of s ≡ r → above 10 s ≡ true
    → Written lines read → Written (s ∷ lines) (r ∷ read)
unfolding all_above
written_more s r lines read e a rest =
    record {
      shapes = λ i. e i ∷ rest.shapes i;
      plain = and_both (above 10 s) (all_above 10 lines) a rest.plain;
    }

above_both : (a b : List (List ℕ)) → all_above 10 a ≡ true → all_above 10 b ≡ true → all_above 10 (a ++ b) ≡ true
unfolding all_above
above_both [] b h g = g
above_both (s ∷ a) b h g =
    and_both (above 10 s) (all_above 10 (a ++ b)) (and_left (above 10 s) (all_above 10 a) h)
    (above_both a b (and_right (above 10 s) (all_above 10 a) h) g)

written_both : (a b : List (List ℕ)) (r q : List Line) → Written a r → Written b q → Written (a ++ b) (r ++ q)
written_both a b r q w v =
    record {
      shapes = map-append shape_of a b ∙ (λ i. w.shapes i ++ v.shapes i);
      plain = above_both a b w.plain v.plain;
    }

length_lined : (a b : List (List ℕ)) → length (lined (a ++ b)) ≡ length (lined a) + length (lined b)
unfolding lined
length_lined [] b = omega arith
length_lined (s ∷ a) b =
    omega (
      arith,
      length-append s (10 ∷ lined (a ++ b)),
      length-append s (10 ∷ lined a),
      length_lined a b,
    )

-- ---- stations
unfoldable pub stations_read : ℕ → List Station → List Line
stations_read n [] = []
stations_read n (s ∷ l) = station_read n s ∷ stations_read (n + 1) l

stations_written : (n : ℕ) (l : List Station) → valid_stations l ≡ true → n + length l ≤ stations_most + 1
    → Written (station_lines n l) (stations_read n l)
unfolding station_lines stations_read valid_stations
stations_written n [] v h = written_none
stations_written n (s ∷ l) v h =
    let here : valid_station s ≡ true = and_left (valid_station s) (valid_stations l) v in
    written_more _ _ _ _ (station_shape_lem n s (omega arith) here) (station_above n s (omega arith) here)
    (stations_written (n + 1) l (and_right (valid_station s) (valid_stations l) v) (omega arith))

stations_short : (n : ℕ) (l : List Station) → valid_stations l ≡ true → n + length l ≤ stations_most + 1
    → length (lined (station_lines n l)) ≤ 14 * length l
unfolding station_lines valid_stations lined
stations_short n [] v h = omega arith
stations_short n (s ∷ l) v h =
    let here : valid_station s ≡ true = and_left (valid_station s) (valid_stations l) v in
    omega (
      arith,
      length-append (station_line n s) (10 ∷ lined (station_lines (n + 1) l)),
      station_short n s (omega arith) here,
      stations_short (n + 1) l (and_right (valid_station s) (valid_stations l) v) (omega arith),
    )

-- ---- walks, of n stations
module _ (n : ℕ) (few : n ≤ stations_most) where
  walks_written : (l : List Walk) → valid_walks n l ≡ true → Written (map walk_line l) (map walk_read l)
  walks_written [] v = written_none
  walks_written (w ∷ l) v =
      let here = walk_first n w l v in
      written_more _ _ _ _ (walk_shape_lem n w few here) (walk_above n w few here)
      (walks_written l (walks_rest n w l v))

  walks_short : (l : List Walk) → valid_walks n l ≡ true → length (lined (map walk_line l)) ≤ 16 * length l
  unfolding lined
  walks_short [] v = omega arith
  walks_short (w ∷ l) v =
      omega (
        arith,
        length-append (walk_line w) (10 ∷ lined (map walk_line l)),
        walk_short n w few (walk_first n w l v),
        walks_short l (walks_rest n w l v),
      )

-- ---- both
abbrev pub net_read : List Station → List Walk → List Line
net_read stations walks = stations_read 1 stations ++ map walk_read walks

module _ (s : List Station) (l : List Walk) (v : valid_stations s ≡ true) (few : length s ≤ stations_most)
    (w : valid_walks (length s) l ≡ true)
  where
    pub net_written : Written (net_lines s l) (net_read s l)
    net_written =
        written_both _ _ _ _ (stations_written 1 s v (omega arith)) (walks_written (length s) few l w)

    pub net_short : length l ≤ walks_most → length (net_text s l) ≤ 4992
    unfolding net_text
    net_short h =
        omega (
          arith,
          length_lined (station_lines 1 s) (map walk_line l),
          stations_short 1 s v (omega arith),
          walks_short (length s) few l w,
        )

-- ---- the stops of a trip
unfoldable pub stops_read : (trip k : ℕ) → List Stop → List Line
stops_read trip k [] = []
stops_read trip k (s ∷ l) = stop_read trip k s (none_after l) ∷ stops_read trip (k + 1) l

stop_written : (trip k : ℕ) (s : Stop) (l : List Stop) → Writable trip k s (none_after l)
    → Written (stop_lines trip (k + 1) l) (stops_read trip (k + 1) l)
    → Written (stop_lines trip k (s ∷ l)) (stops_read trip k (s ∷ l))
unfolding stop_lines stops_read
stop_written trip k s l w rest =
    written_more _ _ _ _ (stop_shape_lem trip k s (none_after l) w) (stop_above trip k s (none_after l) w) rest

no_stops : (trip k : ℕ) → Written (stop_lines trip k []) (stops_read trip k [])
unfolding stop_lines stops_read
no_stops trip k = written_none

module _ (n trip : ℕ) (few : n ≤ stations_most) (in-trips : trip ≤ number_most) where
  last_writable : (k : ℕ) (b s : Stop) → 1 < k → k ≤ stops_most → follows n b s ≡ true → ends s ≡ true
      → Writable trip k s true
  last_writable k b s h g f e =
      record {
        trips = in-trips;
        stops = g;
        ranges = omega (arith, last_ranges n b s f e);
        first = λ one. absurd (omega arith);
        final = λ _. it_ends s e;
        inner = λ _ one. omega arith;
      }

  inner_writable : (k : ℕ) (b s : Stop) → 1 < k → k ≤ stops_most → follows n b s ≡ true → leaves s ≡ true
      → Writable trip k s false
  inner_writable k b s h g f e =
      record {
        trips = in-trips;
        stops = g;
        ranges = omega (arith, inner_ranges n b s f e);
        first = λ one. absurd (omega arith);
        final = λ z. absurd (false≢true z);
        inner = λ z one. false≢true z;
      }

  first_writable : (b : Stop) (l : List Stop) → Begins n b l → Writable trip 1 b false
  first_writable b l v =
      record {
        trips = in-trips;
        stops = omega arith;
        ranges = omega (arith, first_ranges n b l v);
        first = λ _. v.arrive;
        final = λ z. absurd (false≢true z);
        inner = λ z one. false≢true z;
      }

  later_written : (k : ℕ) (b : Stop) (l : List Stop) → runs n b l ≡ true → 1 < k → k + length l ≤ stops_most + 1
      → Written (stop_lines trip k l) (stops_read trip k l)
  later_written k b [] v h g = absurd (runs_none n b v)
  later_written k b (s ∷ []) v h g =
      let r = runs_last n b s v in
      stop_written trip k s [] (last_writable k b s h (omega arith) r.0 r.1) (no_stops trip (k + 1))
  later_written k b (s ∷ u ∷ l) v h g =
      let r = runs_on n b s u l v in
      stop_written trip k s (u ∷ l) (inner_writable k b s h (omega arith) r.follows r.leaves)
      (later_written (k + 1) s (u ∷ l) r.on (omega arith) (omega arith))

  pub trip_written : (t : Trip) → valid_trip n t ≡ true → length t ≤ stops_most
      → Written (stop_lines trip 1 t) (stops_read trip 1 t)
  trip_written [] v h = absurd (trip_not_empty n v)
  trip_written (b ∷ []) v h = absurd (runs_none n b (begins n b [] v).on)
  trip_written (b ∷ s ∷ l) v h =
      let w = begins n b (s ∷ l) v in
      stop_written trip 1 b (s ∷ l) (first_writable b (s ∷ l) w)
      (later_written 2 b (s ∷ l) w.on (omega arith) (omega arith))
