-- What is left to write goes to the words from here on: one turn of each loop that writes, and its end.
use mathlib.Core.Path.{◌≡◌, refl, sym, ap, ◌∙◌}
use mathlib.Core.List.{List, [], ◌∷◌}
use Prim.Native.Nat.{ℕ, suc, ◌+◌, ◌-◌, ◌*◌, ◌≤◌, ◌<◌}
use native.Mathlib.Nat.{suc-mul, sub-zero}
use native.Mathlib.Numerals.{add-one}
use native.Mathlib.Omega.{arith}
use lib.ListN.{length, get_or, set}
use lib.Seq.{slice, slice-cons, slice_empty, length-slice}
use Rattle.words.specs.Put.{put, put_none, put_one, put_append}
use Rattle.lines_lookup.specs.Lookup.{Line}
use Rattle.lines_turned.specs.Turned.{stepped, turned_trips, times_from, line_end, turned_line, length_stepped}

-- ---- a part as it is
module _ (v old out : List ℕ) (from end k : ℕ)
    (left : put from (slice from end v) old ≡ put k (slice k end v) out) where
  pub part_more : k < end → end ≤ length v → length out ≡ length old → end ≤ length old
      → put from (slice from end v) old ≡ put (k + 1) (slice (k + 1) end v) (set out k (get_or v k 0))
  part_more h inside long room =
      left
      ∙ ap (λ l. put k l out) (slice-cons k end v 0 h inside)
      ∙ sym (put_append k 1 (get_or v k 0 ∷ []) (slice (suc k) end v) out refl (omega arith))
      ∙ ap (put (k + 1) (slice (suc k) end v)) (sym (put_one k out (get_or v k 0) (omega arith)))
      ∙ ap (λ m. put (k + 1) (slice m end v) (set out k (get_or v k 0))) (sym (add-one k))

  pub part_done : k ≤ end → end ≤ k → out ≡ put from (slice from end v) old
  part_done h g =
      let here : k ≡ end = omega arith in
      sym (left ∙ ap (λ m. put k (slice m end v) out) here ∙ ap (λ l. put k l out) (slice_empty end v) ∙ put_none k out)

-- ---- the times of a trip
module _ (v old out : List ℕ) (from trips stops at k p : ℕ)
    (left : put at (stepped v from trips stops) old ≡ put (at + 2 * p) (stepped v k trips (stops - p)) out) where
  pub trip_more : (arrive depart : ℕ) (next : List ℕ) → p < stops → at + 2 * stops ≤ length old
      → length out ≡ length old → arrive ≡ get_or v k 0 → depart ≡ get_or v (k + trips) 0
      → next ≡ put (at + 2 * p) (arrive ∷ depart ∷ []) out
      → put at (stepped v from trips stops) old
      ≡ put (at + 2 * (p + 1)) (stepped v (k + 2 * trips) trips (stops - (p + 1))) next
  unfolding stepped
  trip_more arrive depart next h room long is-arrive is-depart is-next =
      let rest = stepped v (k + 2 * trips) trips (stops - (p + 1)) in
      let more : stops - p ≡ suc (stops - (p + 1)) = omega arith in
      let words : stepped v k trips (stops - p) ≡ arrive ∷ depart ∷ rest =
      ap (stepped v k trips) more ∙ (λ z. sym is-arrive z ∷ sym is-depart z ∷ rest) in
      let on : at + 2 * (p + 1) ≡ at + 2 * p + 2 = omega arith in
      left
      ∙ ap (λ l. put (at + 2 * p) l out) words
      ∙ sym (put_append (at + 2 * p) 2 (arrive ∷ depart ∷ []) rest out refl (omega arith))
      ∙ ap (put (at + 2 * p + 2) rest) (sym is-next)
      ∙ ap (λ m. put m rest next) (sym on)

  pub trip_done : p ≤ stops → stops ≤ p → out ≡ put at (stepped v from trips stops) old
  unfolding stepped
  trip_done h g =
      let none : stops - p ≡ 0 = omega arith in
      sym
      (left
      ∙ ap (λ n. put (at + 2 * p) (stepped v k trips n) out) none
      ∙ put_none (at + 2 * p) out)

-- ---- the times of a line
-- how many words are left for the trips from place j on, and for those after it
pub trips_left : (trips stops j : ℕ) → j < trips
    → (trips - j) * (2 * stops) ≡ 2 * stops + (trips - (j + 1)) * (2 * stops)
trips_left trips stops j h =
    let more : trips - j ≡ suc (trips - (j + 1)) = omega arith in
    omega (arith, ap (λ n. n * (2 * stops)) more, suc-mul (trips - (j + 1)) (2 * stops))

pub trips_begin : (l : Line) (from : ℕ) → from ≡ times_from l → from + (l.trips - 0) * (2 * l.positions) ≡ line_end l
trips_begin l from e = rw sub-zero (ap (λ k. k + l.trips * (2 * l.positions)) e)

module _ (l : Line) (at j : ℕ)
    (here : at + (l.trips - j) * (2 * l.positions) ≡ line_end l)
    (more : j < l.trips)
    (fits : line_end l ≤ 16384) where
  pub trip_room : (out old : List ℕ) → length out ≡ length old → 16384 ≤ length old → at + 2 * l.positions ≤ length out
  trip_room out old long room = omega (arith, trips_left l.trips l.positions j more)

  pub trip_inside : (u : List ℕ) → 16384 ≤ length u → at + 2 * l.positions ≤ length u
  trip_inside u room = omega (arith, trips_left l.trips l.positions j more)

  pub trip_on_lem : at + 2 * l.positions + (l.trips - (j + 1)) * (2 * l.positions) ≡ line_end l
  trip_on_lem = omega (arith, trips_left l.trips l.positions j more)

module _ (v old out : List ℕ) (trips stops from at j : ℕ)
    (left : put from (turned_trips v from trips stops trips) old
    ≡ put at (turned_trips v (from + j) trips stops (trips - j)) out) where
  pub trips_more : (next : List ℕ) → j < trips → at + 2 * stops ≤ length out
      → next ≡ put at (stepped v (from + j) trips stops) out
      → put from (turned_trips v from trips stops trips) old
      ≡ put (at + 2 * stops) (turned_trips v (from + (j + 1)) trips stops (trips - (j + 1))) next
  unfolding turned_trips
  trips_more next h room is-next =
      let this = stepped v (from + j) trips stops in
      let rest = turned_trips v (from + j + 1) trips stops (trips - (j + 1)) in
      let more : trips - j ≡ suc (trips - (j + 1)) = omega arith in
      let on : from + j + 1 ≡ from + (j + 1) = omega arith in
      left
      ∙ ap (λ n. put at (turned_trips v (from + j) trips stops n) out) more
      ∙ sym (put_append at (2 * stops) this rest out (length_stepped v (from + j) trips stops) room)
      ∙ ap (put (at + 2 * stops) rest) (sym is-next)
      ∙ ap (λ k. put (at + 2 * stops) (turned_trips v k trips stops (trips - (j + 1))) next) on

module _ (v old out : List ℕ) (l : Line) (from at j : ℕ)
    (left : put from (turned_trips v from l.trips l.positions l.trips) old
    ≡ put at (turned_trips v (from + j) l.trips l.positions (l.trips - j)) out) where
  pub trips_done : j ≤ l.trips → l.trips ≤ j → from ≡ times_from l
      → out ≡ put (times_from l) (turned_trips v (times_from l) l.trips l.positions l.trips) old
  unfolding turned_trips
  trips_done h g begin =
      let none : l.trips - j ≡ 0 = omega arith in
      sym
      (ap (λ k. put k (turned_trips v k l.trips l.positions l.trips) old) (sym begin)
      ∙ left
      ∙ ap (λ n. put at (turned_trips v (from + j) l.trips l.positions n) out) none
      ∙ put_none at out)

-- ---- all words of a line
pub line_written : (v old mid out : List ℕ) (l : Line) (from : ℕ) → from ≡ times_from l → line_end l ≤ 16384
    → 16384 ≤ length v → 16384 ≤ length old → mid ≡ put l.at (slice l.at from v) old
    → out ≡ put (times_from l) (turned_trips v (times_from l) l.trips l.positions l.trips) mid
    → out ≡ put l.at (turned_line v l) old
unfolding turned_line
line_written v old mid out l from begin fits inside room first second =
    let times = turned_trips v (times_from l) l.trips l.positions l.trips in
    let part = slice l.at (times_from l) v in
    let many : length part ≡ 2 + l.trips + 3 * l.positions =
    omega (arith, length-slice l.at (times_from l) v (omega arith)) in
    let there : times_from l ≡ l.at + (2 + l.trips + 3 * l.positions) = omega arith in
    second
    ∙ ap (put (times_from l) times) (first ∙ ap (λ k. put l.at (slice l.at k v) old) begin)
    ∙ ap (λ k. put k times (put l.at part old)) there
    ∙ put_append l.at (2 + l.trips + 3 * l.positions) part times old many (omega arith)
