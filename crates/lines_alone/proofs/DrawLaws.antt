-- The loops that write stations, stops and starts: each turn puts the next words after those that stand there.
use mathlib.Core.Path.{◌≡◌, sym, ap, ◌∙◌}
use mathlib.Core.Bool.{Bool, true, false, cond}
use mathlib.Core.List.{List, [], ◌∷◌, ◌++◌, map, map-append, append-nil}
use Prim.Native.Nat.{ℕ, ◌+◌, ◌-◌, ◌*◌, ◌%◌, ◌≤◌, ◌<◌}
use native.Mathlib.Nat.{zero-add, mod-lt}
use native.Mathlib.Omega.{arith}
use lib.Dec.{ltb}
use lib.ListN.{length, get_or, set, take, replicate, length-append, length-map, length-replicate}
use lib.ListN.{replicate-append-replicate}
use Rattle.words.specs.Put.{put, put_append, put_one, put_next, put_over}
use Rattle.lists.specs.Lists.{range}
use Rattle.lists.specs.Ranges.{length_range}
use Rattle.timetable.specs.Timetable.{Trip, stops_of}
use Rattle.timetable.specs.Words.{station_words, stop_words, start_words}
use Rattle.timetable.specs.WordLaws.{length_station_words, length_stop_words, length_start_words, station_words_append}
use Rattle.timetable.specs.WordLaws.{stop_words_append, stops_of_append, start_words_append, start_first}
use Rattle.accepted.specs.OwnWords.{range_append}
use Rattle.lines_lookup.specs.Lookup.{station_at, mark_at, low_at, arrive_at, depart_at}
use Rattle.lines_alone.specs.Drawn.{Home, home_of, next_points, stop_with, stop_on, trip_on, drawn_numbers, drawn_trip}
use Rattle.lines_alone.specs.Drawn.{drawn_trips, plain_station}
use Rattle.lines_alone.proofs.NumberLaws.{number_told}
use Rattle.lines_alone.proofs.CountLaws.{length_trip_on}

-- the next words, behind the m that stand there
put_behind : (at m : ℕ) (a b c old body out : List ℕ) → body ≡ put at a old → length a ≡ m → at + m ≤ length old
    → out ≡ put (at + m) b body → a ++ b ≡ c → out ≡ put at c old
put_behind at m a b c old body out held long room wrote e =
    wrote
    ∙ ap (put (at + m) b) held
    ∙ put_append at m a b old long room
    ∙ ap (λ w. put at w old) e

-- one number more
range_next : (n : ℕ) → range 0 n ++ (n ∷ []) ≡ range 0 (n + 1)
range_next n = ap (λ k. range 0 n ++ (k ∷ [])) (sym (zero-add n)) ∙ range_append 0 n 1

map_next : {A : Type 0} (f : ℕ → A) (n : ℕ) → map f (range 0 n) ++ (f n ∷ []) ≡ map f (range 0 (n + 1))
map_next f n = sym (map-append f (range 0 n) (n ∷ [])) ∙ ap (map f) (range_next n)

-- ---- stations
module _ (n i : ℕ) (old body : List ℕ) (held : body ≡ put 0 (station_words (replicate i plain_station)) old) where
  pub station_more : i < n → 2 * n ≤ length old → (out : List ℕ) → out ≡ put (2 * i) (0 ∷ 1 ∷ []) body
      → out ≡ put 0 (station_words (replicate (i + 1) plain_station)) old
  unfolding station_words
  station_more h room out wrote =
      let long : length (station_words (replicate i plain_station)) ≡ 2 * i =
      length_station_words (replicate i plain_station) ∙ ap (λ k. 2 * k) (length-replicate i plain_station) in
      put_behind 0 (2 * i) (station_words (replicate i plain_station)) (0 ∷ 1 ∷ []) _ old body out held long
      (omega arith)
      (wrote ∙ ap (λ k. put k (0 ∷ 1 ∷ []) body) (sym (zero-add (2 * i))))
      (sym (station_words_append (replicate i plain_station) (plain_station ∷ []))
      ∙ ap station_words (replicate-append-replicate i 1 plain_station))

  pub stations_done : i ≤ n → n ≤ i → body ≡ put 0 (station_words (replicate n plain_station)) old
  stations_done h g =
      let all : i ≡ n = omega arith in
      held ∙ ap (λ k. put 0 (station_words (replicate k plain_station)) old) all

-- ---- the ride on to the next place
module _ (more : Bool) (here next : ℕ) where
  pub onward_some : more ≡ true → (65536 + next - here) % 65536 ≡ cond more ((65536 + next - here) % 65536) 0
  onward_some e = rw e

  pub onward_none : more ≡ false → 0 ≡ cond more ((65536 + next - here) % 65536) 0
  onward_none e = rw e

  pub onward_small : (65536 + next - here) % 65536 < 65536
  onward_small = mod-lt (65536 + next - here) (omega arith)

-- ---- the stops of a trip
pub stop_drawn : (v : List ℕ) (h : Home) (p points at a b c m : ℕ) (old out : List ℕ) → a ≡ station_at v h.line p
    → b ≡ arrive_at v h.line p h.place → c ≡ depart_at v h.line p h.place → m ≡ mark_at v h.line p
    → out ≡ put at (a ∷ b ∷ c ∷ points ∷ m ∷ []) old
    → out ≡ put at (stop_words (stop_with v h p points ∷ [])) old
unfolding stop_words
stop_drawn v h p points at a b c m old out is-a is_b is_c is_m wrote =
    wrote ∙ (λ z. put at (is-a z ∷ is_b z ∷ is_c z ∷ points ∷ is_m z ∷ []) old)

module _ (v : List ℕ) (h : Home) (p at : ℕ) (old body : List ℕ)
    (held : body ≡ put at (stop_words (map (stop_on v h) (range 0 p))) old)
    (room : at + 5 * h.line.positions ≤ length old) where
  words_long : (n : ℕ) → length (stop_words (map (stop_on v h) (range 0 n))) ≡ 5 * n
  words_long n =
      let those = map (stop_on v h) (range 0 n) in
      length_stop_words those
      ∙ ap (λ k. 5 * k) (length-map (range 0 n) (stop_on v h) ∙ length_range 0 n)

  -- the low words of two totals, one less the other
  pub stop_more : p < h.line.positions → (here next d : ℕ) → here ≡ low_at v h.line p
      → next ≡ low_at v h.line (p + 1)
      → d ≡ cond (ltb (p + 1) h.line.positions) ((65536 + next - here) % 65536) 0 → (out : List ℕ)
      → out ≡ put (at + 5 * p) (stop_words (stop_with v h p d ∷ [])) body
      → out ≡ put at (stop_words (map (stop_on v h) (range 0 (p + 1)))) old
  unfolding next_points
  stop_more more here next d is_here is-next is-d out wrote =
      let so_far = map (stop_on v h) (range 0 p) in
      let points =
      is-d ∙ (λ i. cond (ltb (p + 1) h.line.positions) ((65536 + is-next i - is_here i) % 65536) 0) in
      put_behind at (5 * p) (stop_words so_far) (stop_words (stop_on v h p ∷ [])) _ old body out held (words_long p)
      (omega arith)
      (wrote ∙ ap (λ d. put (at + 5 * p) (stop_words (stop_with v h p d ∷ [])) body) points)
      (sym (stop_words_append so_far (stop_on v h p ∷ [])) ∙ ap stop_words (map_next (stop_on v h) p))

  pub stops_done : p ≤ h.line.positions → h.line.positions ≤ p → body ≡ put at (stop_words (trip_on v h)) old
  unfolding trip_on
  stops_done less least =
      let all : p ≡ h.line.positions = omega arith in
      held ∙ ap (λ k. put at (stop_words (map (stop_on v h) (range 0 k))) old) all

-- ---- all trips
-- the first start is written before the trips are, and is part of what is written in all
pub start_held : (old : List ℕ) → 0 < length old → set old 0 0 ≡ put 0 (start_words 0 []) (set old 0 0)
unfolding start_words
start_held old h = put_one 0 old 0 h ∙ sym (put_over 0 0 [] old)

starts_over : (n : ℕ) (v old : List ℕ)
    → put 0 (start_words 0 (drawn_trips v 0 n)) (set old 0 0) ≡ put 0 (start_words 0 (drawn_trips v 0 n)) old
starts_over n v old =
    let first = start_first 0 (drawn_trips v 0 n) in
    rw first.1 (put_over 0 0 first.0 old)

module _ (v : List ℕ) (trips z count : ℕ) (counted : count ≡ length (stops_of (drawn_trips v 0 z))) where
  abbrev all : List Trip
  all = drawn_trips v 0 trips

  abbrev those : List Trip
  those = drawn_trips v 0 z

  module _ (numbers : List ℕ) (told : take trips numbers ≡ drawn_numbers v) (number : ℕ)
      (read : number ≡ get_or numbers z 0) (h : Home) (is : h ≡ home_of v number) (more : z < trips) where
    next_trip : drawn_trip v z ≡ trip_on v h
    next_trip = ap (trip_on v) (sym (is ∙ ap (home_of v) (number_told v numbers trips told z more number read)))

    next_long : length (drawn_trip v z) ≡ h.line.positions
    next_long = ap length next_trip ∙ length_trip_on v h

    next_trips : those ++ (drawn_trip v z ∷ []) ≡ drawn_trips v 0 (z + 1)
    next_trips = map_next (drawn_trip v) z

    next_stops : stops_of those ++ drawn_trip v z ≡ stops_of (drawn_trips v 0 (z + 1))
    next_stops =
        ap (λ l. stops_of those ++ l) (sym (append-nil (drawn_trip v z)))
        ∙ sym (stops_of_append those (drawn_trip v z ∷ []))
        ∙ ap stops_of next_trips

    pub next_counted : count + h.line.positions ≡ length (stops_of (drawn_trips v 0 (z + 1)))
    next_counted =
        omega (arith, counted, next_long, length-append (stops_of those) (drawn_trip v z), ap length next_stops)

    -- the stops up to here are among all
    pub next_within : count + h.line.positions ≤ length (stops_of all)
    next_within =
        let rest = drawn_trips v (0 + (z + 1)) (trips - (z + 1)) in
        let whole : z + 1 + (trips - (z + 1)) ≡ trips = omega arith in
        let split : drawn_trips v 0 (z + 1) ++ rest ≡ all =
        sym (map-append (drawn_trip v) (range 0 (z + 1)) (range (0 + (z + 1)) (trips - (z + 1))))
        ∙ ap (map (drawn_trip v)) (range_append 0 (z + 1) (trips - (z + 1)) ∙ ap (range 0) whole) in
        let sum : length (stops_of (drawn_trips v 0 (z + 1))) + length (stops_of rest) ≡ length (stops_of all) =
        sym (length-append (stops_of (drawn_trips v 0 (z + 1))) (stops_of rest))
        ∙ ap length (sym (stops_of_append (drawn_trips v 0 (z + 1)) rest) ∙ ap stops_of split) in
        omega (arith, next_counted, sum)

    pub next_few : length (stops_of (drawn_trips v 0 trips)) ≤ 2048 → count + h.line.positions ≤ 2048
    next_few few = omega (arith, next_within)

    pub next_small : length (stops_of (drawn_trips v 0 trips)) ≤ 2048 → count + h.line.positions < 65536
    next_small few = omega (arith, next_within)

    module _ (at : ℕ) (old body : List ℕ) (room : at + 5 * length (stops_of (drawn_trips v 0 trips)) ≤ length old) where
      pub next_room : length body ≡ length old → at + 5 * count + 5 * h.line.positions ≤ length body
      next_room kept = omega (arith, next_within)

      pub trip_more : body ≡ put at (stop_words (stops_of (drawn_trips v 0 z))) old → (out : List ℕ)
          → out ≡ put (at + 5 * count) (stop_words (trip_on v h)) body
          → out ≡ put at (stop_words (stops_of (drawn_trips v 0 (z + 1)))) old
      trip_more held out wrote =
          let long : length (stop_words (stops_of those)) ≡ 5 * count =
          length_stop_words (stops_of those) ∙ ap (λ k. 5 * k) (sym counted) in
          put_behind at (5 * count) (stop_words (stops_of those)) (stop_words (drawn_trip v z)) _ old body out held long
          (omega (arith, next_within))
          (wrote ∙ ap (λ t. put (at + 5 * count) (stop_words t) body) (sym next_trip))
          (sym (stop_words_append (stops_of those) (drawn_trip v z)) ∙ ap stop_words next_stops)

    pub start_more : (old starts : List ℕ) → starts ≡ put 0 (start_words 0 (drawn_trips v 0 z)) old
        → trips < length old
        → set starts (z + 1) (count + h.line.positions) ≡ put 0 (start_words 0 (drawn_trips v 0 (z + 1))) old
    start_more old starts held room =
        let many : length those ≡ z = length-map (range 0 z) (drawn_trip v) ∙ length_range 0 z in
        let long : length (start_words 0 those) ≡ z + 1 = length_start_words 0 those ∙ ap (λ k. k + 1) many in
        let here : count + h.line.positions ≡ 0 + length (stops_of those ++ drawn_trip v z) =
        omega (arith, next_counted, ap length next_stops) in
        ap (λ l. set l (z + 1) (count + h.line.positions)) held
        ∙ put_next (z + 1) (start_words 0 those) old (count + h.line.positions) long (omega arith)
        ∙ ap (λ k. put 0 (start_words 0 those ++ (k ∷ [])) old) here
        ∙ ap (λ w. put 0 w old)
        (sym (start_words_append 0 those (drawn_trip v z)) ∙ ap (start_words 0) next_trips)

  module _ (less : z ≤ trips) (least : trips ≤ z) where
    whole_is : z ≡ trips
    whole_is = omega arith

    pub trips_drawn : (at : ℕ) (old body : List ℕ) → body ≡ put at (stop_words (stops_of (drawn_trips v 0 z))) old
        → body ≡ put at (stop_words (stops_of (drawn_trips v 0 trips))) old
    trips_drawn at old body held =
        held ∙ ap (λ k. put at (stop_words (stops_of (drawn_trips v 0 k))) old) whole_is

    pub starts_drawn : (old starts : List ℕ) → starts ≡ put 0 (start_words 0 (drawn_trips v 0 z)) (set old 0 0)
        → starts ≡ put 0 (start_words 0 (drawn_trips v 0 trips)) old
    starts_drawn old starts held =
        held
        ∙ ap (λ k. put 0 (start_words 0 (drawn_trips v 0 k)) (set old 0 0)) whole_is
        ∙ starts_over trips v old

    pub all_counted : count ≡ length (stops_of (drawn_trips v 0 trips))
    all_counted = counted ∙ ap (λ k. length (stops_of (drawn_trips v 0 k))) whole_is
