-- The words before here agree, so all depends on those from here on: one turn of each loop that compares, and its end.
use mathlib.Core.Path.{◌≡◌, sym, ap, ◌∙◌}
use mathlib.Core.Bool.{Bool, true, false, not, ◌&&◌}
use mathlib.Core.List.{List}
use Prim.Native.Nat.{ℕ, suc, ◌+◌, ◌-◌, ◌*◌, ◌≤◌, ◌<◌}
use native.Mathlib.Numerals.{add-one}
use native.Mathlib.Omega.{arith}
use borrow.Author.Tests.{eq-eqb, ne_eqb, not-true, not-false}
use lib.Dec.{eqb}
use lib.ListN.{length, get_or, drop}
use lib.Seq.{slice, slice-cons, slice_empty, drop-cons, drop-drop, length-slice}
use Rattle.lists.specs.Tests.{and_true}
use Rattle.lines_lookup.specs.Lookup.{Line}
use Rattle.lines_turned.specs.Turned.{
  stepped,
  turned_trips,
  times_from,
  line_end,
  turned_line,
  length_stepped,
  starts,
  starts_append,
}

-- ---- a part as it is
module _ (v u : List ℕ) (from end k : ℕ)
    (left : starts (slice from end v) (drop from u) ≡ starts (slice k end v) (drop k u)) where
  module _ (x : ℕ) (h : k < end) (inside : end ≤ length v) (room : end ≤ length u) (read : x ≡ get_or u k 0) where
    pub part_differs : (get_or v k 0 ≡ x → ⊥) → false ≡ starts (slice from end v) (drop from u)
    unfolding starts
    part_differs ne =
        sym
        (left
        ∙ rw (slice-cons k end v 0 h inside, drop-cons u k 0 (omega arith), ← read, ne_eqb (get_or v k 0) x ne))

    pub part_agrees : get_or v k 0 ≡ x
        → starts (slice from end v) (drop from u) ≡ starts (slice (k + 1) end v) (drop (k + 1) u)
    unfolding starts
    part_agrees e =
        left
        ∙ rw (
          slice-cons k end v 0 h inside,
          drop-cons u k 0 (omega arith),
          ← read,
          eq-eqb (get_or v k 0) x e,
          add-one k,
        )

  pub part_same : k ≤ end → end ≤ k → true ≡ starts (slice from end v) (drop from u)
  unfolding starts
  part_same h g =
      let here : k ≡ end = omega arith in
      sym (left ∙ ap (λ m. starts (slice m end v) (drop k u)) here ∙ rw (slice_empty end v))

-- ---- the times at a stop
module _ (v u : List ℕ) (k trips at x y : ℕ)
    (room : at + 2 ≤ length u)
    (is_x : x ≡ get_or v k 0)
    (is_y : y ≡ get_or u at 0) where
  two : starts (stepped v k trips 1) (drop at u) ≡ (eqb x y &&
      (eqb (get_or v (k + trips) 0) (get_or u (at + 1) 0) && true))
  unfolding starts stepped
  two =
      rw (
        drop-cons u at 0 (omega arith),
        drop-cons u (suc at) 0 (omega arith),
        add-one at,
        is_x,
        is_y,
      )

  pub arrival_differs : (x ≡ y → ⊥) → false ≡ starts (stepped v k trips 1) (drop at u)
  arrival_differs ne = sym (two ∙ rw (ne_eqb x y ne))

  pub departure_decides : (a b : ℕ) → x ≡ y → a ≡ get_or v (k + trips) 0 → b ≡ get_or u (at + 1) 0
      → eqb a b ≡ starts (stepped v k trips 1) (drop at u)
  departure_decides a b e is-a is_b = sym (two ∙ rw (eq-eqb x y e, ← is-a, ← is_b, and_true (eqb a b)))

-- ---- the times of a trip
module _ (v u : List ℕ) (from trips stops at k p : ℕ)
    (left : starts (stepped v from trips stops) (drop at u)
    ≡ starts (stepped v k trips (stops - p)) (drop (at + 2 * p) u)) where
  module _ (h : p < stops) (r : Bool) (is-r : r ≡ starts (stepped v k trips 1) (drop (at + 2 * p) u)) where
    next : starts (stepped v from trips stops) (drop at u)
        ≡ (r && starts (stepped v (k + 2 * trips) trips (stops - (p + 1))) (drop (at + 2 * (p + 1)) u))
    unfolding stepped
    next =
        let this = stepped v k trips 1 in
        let rest = stepped v (k + 2 * trips) trips (stops - (p + 1)) in
        let more : stops - p ≡ suc (stops - (p + 1)) = omega arith in
        let on : at + 2 * p + 2 ≡ at + 2 * (p + 1) = omega arith in
        left
        ∙ ap (λ n. starts (stepped v k trips n) (drop (at + 2 * p) u)) more
        ∙ starts_append this rest (drop (at + 2 * p) u)
        ∙ (λ z. sym is-r z && starts rest (drop-drop 2 (at + 2 * p) u z))
        ∙ ap (λ m. r && starts rest (drop m u)) on

    pub trip_differs : not r ≡ true → false ≡ starts (stepped v from trips stops) (drop at u)
    trip_differs denied = sym (next ∙ rw (not-true r denied))

    pub trip_agrees : not r ≡ false
        → starts (stepped v from trips stops) (drop at u)
        ≡ starts (stepped v (k + 2 * trips) trips (stops - (p + 1))) (drop (at + 2 * (p + 1)) u)
    trip_agrees agreed = next ∙ rw (not-false r agreed)

  pub trip_same : p ≤ stops → stops ≤ p → true ≡ starts (stepped v from trips stops) (drop at u)
  unfolding starts stepped
  trip_same h g =
      let none : stops - p ≡ 0 = omega arith in
      sym (left ∙ rw none)

-- ---- the times of a line
module _ (v u : List ℕ) (trips stops from at j : ℕ)
    (left : starts (turned_trips v from trips stops trips) (drop from u)
    ≡ starts (turned_trips v (from + j) trips stops (trips - j)) (drop at u)) where
  module _ (h : j < trips) (r : Bool) (is-r : r ≡ starts (stepped v (from + j) trips stops) (drop at u)) where
    then : starts (turned_trips v from trips stops trips) (drop from u)
        ≡ (r && starts (turned_trips v (from + (j + 1)) trips stops (trips - (j + 1))) (drop (at + 2 * stops) u))
    unfolding turned_trips
    then =
        let this = stepped v (from + j) trips stops in
        let rest = turned_trips v (from + j + 1) trips stops (trips - (j + 1)) in
        let more : trips - j ≡ suc (trips - (j + 1)) = omega arith in
        let on : from + j + 1 ≡ from + (j + 1) = omega arith in
        left
        ∙ ap (λ n. starts (turned_trips v (from + j) trips stops n) (drop at u)) more
        ∙ starts_append this rest (drop at u)
        ∙ rw (← is-r, drop-drop (length this) at u, length_stepped v (from + j) trips stops, on)

    pub trips_agree : not r ≡ false
        → starts (turned_trips v from trips stops trips) (drop from u)
        ≡ starts (turned_trips v (from + (j + 1)) trips stops (trips - (j + 1))) (drop (at + 2 * stops) u)
    trips_agree agreed = then ∙ rw (not-false r agreed)

    pub trips_differ : (l : Line) → not r ≡ true → from ≡ times_from l
        → false ≡ starts (turned_trips v (times_from l) trips stops trips) (drop (times_from l) u)
    trips_differ l denied begin =
        sym (then ∙ rw (not-true r denied))
        ∙ ap (λ k. starts (turned_trips v k trips stops trips) (drop k u)) begin

  pub trips_same : (l : Line) → j ≤ trips → trips ≤ j → from ≡ times_from l
      → true ≡ starts (turned_trips v (times_from l) trips stops trips) (drop (times_from l) u)
  unfolding starts turned_trips
  trips_same l h g begin =
      let none : trips - j ≡ 0 = omega arith in
      sym (left ∙ rw none) ∙ ap (λ k. starts (turned_trips v k trips stops trips) (drop k u)) begin

-- ---- all words of a line
module _ (v u : List ℕ) (l : Line) (from : ℕ) (begin : from ≡ times_from l) (fits : line_end l ≤ 16384)
    (inside : 16384 ≤ length v) (r : Bool) (is-r : r ≡ starts (slice l.at from v) (drop l.at u)) where
  line_parts : starts (turned_line v l) (drop l.at u)
      ≡ (r
      && starts (turned_trips v (times_from l) l.trips l.positions l.trips) (drop (times_from l) u))
  unfolding turned_line
  line_parts =
      let part = slice l.at (times_from l) v in
      let times = turned_trips v (times_from l) l.trips l.positions l.trips in
      let there : l.at + length part ≡ times_from l =
      omega (arith, length-slice l.at (times_from l) v (omega arith)) in
      let first : starts part (drop l.at u) ≡ r =
      ap (λ k. starts (slice l.at k v) (drop l.at u)) (sym begin) ∙ sym is-r in
      starts_append part times (drop l.at u)
      ∙ (λ z. first z && starts times (drop-drop (length part) l.at u z))
      ∙ ap (λ k. r && starts times (drop k u)) there

  pub line_differs : not r ≡ true → false ≡ starts (turned_line v l) (drop l.at u)
  line_differs denied = sym (line_parts ∙ rw (not-true r denied))

  pub line_same : (s : Bool) → not r ≡ false
      → s ≡ starts (turned_trips v (times_from l) l.trips l.positions l.trips) (drop (times_from l) u)
      → s ≡ starts (turned_line v l) (drop l.at u)
  line_same s agreed is-s = is-s ∙ sym (line_parts ∙ rw (not-false r agreed))
