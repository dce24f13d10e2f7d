-- The loops that count stops and trips: the whole count is what was counted and what is left.
use mathlib.Core.Path.{◌≡◌, sym, ap, ◌∙◌}
use mathlib.Core.Bool.{false}
use mathlib.Core.List.{List, map}
use Prim.Native.Nat.{ℕ, suc, ◌+◌, ◌-◌, ◌≤◌, ◌<◌}
use native.Mathlib.Omega.{arith}
use borrow.Author.Tests.{le-leb, lt-leb}
use lib.Dec.{leb}
use lib.ListN.{length, get_or, take, length-append, length-map}
use Rattle.lists.specs.Lists.{range}
use Rattle.lists.specs.Ranges.{length_range, range_more, range_none}
use Rattle.timetable.specs.Timetable.{stops_of}
use Rattle.lines_lookup.specs.Lookup.{Line, line_at}
use Rattle.lines_alone.specs.Drawn.{Home, home_of, stop_on, trip_on, drawn_numbers, drawn_trip, drawn_trips, trips_from}
use Rattle.lines_alone.specs.Drawn.{counts_fit}
use Rattle.lines_alone.proofs.NumberLaws.{number_told}

pub length_trip_on : (v : List ℕ) (h : Home) → length (trip_on v h) ≡ h.line.positions
unfolding trip_on
length_trip_on v h = length-map (range 0 h.line.positions) (stop_on v h) ∙ length_range 0 h.line.positions

module _ (v : List ℕ) (trips : ℕ) where
  pub stops_first : length (stops_of (drawn_trips v 0 trips)) ≡ 0 + length (stops_of (drawn_trips v 0 (trips - 0)))
  stops_first =
      let same : trips ≡ trips - 0 = omega arith in
      omega (arith, ap (λ n. length (stops_of (drawn_trips v 0 n))) same)

  module _
      (z count : ℕ)
      (so_far : length (stops_of (drawn_trips v 0 trips)) ≡ count + length (stops_of (drawn_trips v z (trips - z))))
    where
      pub stops_more : (numbers : List ℕ) → take trips numbers ≡ drawn_numbers v → z < trips
          → (number : ℕ) → number ≡ get_or numbers z 0 → (h : Home) → h ≡ home_of v number
          → length (stops_of (drawn_trips v 0 trips))
          ≡ count + h.line.positions + length (stops_of (drawn_trips v (z + 1) (trips - (z + 1))))
      stops_more numbers told more number is h e =
          let next : length (stops_of (drawn_trips v z (trips - z)))
          ≡ length (drawn_trip v z) + length (stops_of (drawn_trips v (z + 1) (trips - (z + 1)))) =
          ap (λ r. length (stops_of (map (drawn_trip v) r))) (range_more z trips more)
          ∙ length-append (drawn_trip v z) (stops_of (drawn_trips v (z + 1) (trips - (z + 1)))) in
          let home : h ≡ home_of v (get_or (drawn_numbers v) z 0) =
          e ∙ ap (home_of v) (number_told v numbers trips told z more number is) in
          let this : length (drawn_trip v z) ≡ h.line.positions =
          length_trip_on v (home_of v (get_or (drawn_numbers v) z 0))
          ∙ ap (λ (x : Home). x.line.positions) (sym home) in
          omega (arith, so_far, next, this)

      pub stops_counted : trips ≤ z → count ≡ length (stops_of (drawn_trips v 0 trips))
      stops_counted h =
          omega (arith, so_far, ap (λ r. length (stops_of (map (drawn_trip v) r))) (range_none z trips h))

module _ (v : List ℕ) (lines : ℕ) where
  pub trips_first : trips_from v 0 lines ≡ 0 + trips_from v 0 (lines - 0)
  trips_first =
      let same : lines ≡ lines - 0 = omega arith in
      omega (arith, ap (trips_from v 0) same)

  module _ (i count : ℕ) (so_far : trips_from v 0 lines ≡ count + trips_from v i (lines - i)) where
    pub trips_more : (l : Line) → l ≡ line_at v i → i < lines
        → trips_from v 0 lines ≡ count + l.trips + trips_from v (i + 1) (lines - (i + 1))
    unfolding trips_from
    trips_more l e more =
        let some : lines - i ≡ suc (lines - (i + 1)) = omega arith in
        omega (arith, so_far, ap (trips_from v i) some, ap (λ (x : Line). x.trips) e)

    pub trips_counted : lines ≤ i → count ≡ trips_from v 0 lines
    unfolding trips_from
    trips_counted h =
        let none : lines - i ≡ 0 = omega arith in
        omega (arith, so_far, ap (trips_from v i) none)

-- ---- the counts that fit
module _ (v : List ℕ) (s : ℕ) (is-s : s ≡ get_or v 0 0) where
  pub stations_many : 64 < s → false ≡ counts_fit v
  unfolding counts_fit
  stations_many h = simp (← is-s, lt-leb s 64 h)

  module _ (few-s : s ≤ 64) (n : ℕ) (is-n : n ≡ get_or v 1 0) where
    pub lines_many : 256 < n → false ≡ counts_fit v
    unfolding counts_fit
    lines_many h = simp (← is-s, le-leb s 64 few-s, ← is-n, lt-leb n 256 h)

    pub counts_tested : (k : ℕ) → k ≡ trips_from v 0 n → n ≤ 256 → leb k 256 ≡ counts_fit v
    unfolding counts_fit
    counts_tested k e few-n = simp (← is-s, le-leb s 64 few-s, ← is-n, le-leb n 256 few-n, e)
