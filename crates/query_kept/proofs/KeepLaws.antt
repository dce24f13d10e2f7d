-- One ride after the other is kept, or passed over: from trip to trip, from place to place of a line, and from call to
-- call.
use mathlib.Core.Path.{◌≡◌, refl, sym, ap, ◌∙◌}
use mathlib.Core.Bool.{Bool, true, false}
use mathlib.Core.List.{List, [], ◌∷◌, ◌++◌, map, append-nil}
use Prim.Native.Nat.{ℕ, ◌+◌, ◌*◌, ◌≤◌, ◌<◌}
use native.Mathlib.Omega.{arith}
use native.Mathlib.Decide.{ℕ_discrete}
use borrow.Author.Tests.{lt-ltb, le-ltb}
use lib.Dec.{eqb}
use lib.ListN.{length, get_or}
use Rattle.words.specs.Put.{put}
use Rattle.lists.specs.Lists.{concat_map}
use Rattle.lists.specs.Ranges.{range_more, range_none}
use Rattle.connections.specs.Rides.{Ride}
use Rattle.lines_lookup.specs.Lookup.{Line, number_at, arrive_at, depart_at}
use Rattle.lines_lookup.specs.Calls.{Piece, Boarding, calls_of, calls_in, BoardsAt}
use Rattle.lines_lookup.specs.First.{first_trip}
use Rattle.query_places.specs.Candidates.{Reach, reach_by, nearest, legs, ride_on, near_leg, near_read}
use Rattle.query_places.specs.Places.{found_at, nearest_none, nearest_found}
use Rattle.query_places.specs.declared.Place.{Place}
use Rattle.std.specs.Prelude.{Option, None, Some}
use Rattle.query_kept.specs.Choosing.{Found, no_found, goes_before}
use Rattle.query_kept.specs.Keeping.{kept_at, ride_words, kept_with, kept_on, keep_all, Unkept, put_here}
use Rattle.query_kept.specs.Keeping.{put_elsewhere}
use Rattle.query_places.specs.Turns.{trips_from, near_calls, from, legs_none, legs_more}

-- ---- none kept yet
pub unkept_first : (kept : List ℕ) → Unkept kept 0
unkept_first kept = record { none = λ m h. absurd (omega arith) }

pub unkept_more : (kept next : List ℕ) (a : ℕ) → Unkept kept a → a < 2880 → length kept ≡ 11520
    → next ≡ put (4 * a) (ride_words no_found) kept → Unkept next (a + 1)
unkept_more kept next a k h long e = record { none = λ m g. ap (λ l. kept_at l m) e ∙ at m g }
  where
    room : 4 * a + 4 ≤ length kept
    room = omega (arith, long)

    at : (m : ℕ) → m < a + 1 → kept_at (put (4 * a) (ride_words no_found) kept) m ≡ no_found
    at m g =
        elim (ℕ_discrete m a) [
          | yes q ↦ rw q (put_here kept a no_found room)
          | no q ↦ put_elsewhere kept a no_found room m q ∙ k.none m (omega arith)
        ]

pub unkept_done : (kept : List ℕ) (a : ℕ) → Unkept kept a → 2880 ≤ a → Unkept kept 2880
unkept_done kept a k h = record { none = λ m g. k.none m (omega arith) }

-- ---- one ride
module _ (kept : List ℕ) (m : ℕ) (f stood : Found) (is-stood : stood ≡ kept_at kept m) (r : Bool)
    (is-r : r ≡ goes_before f stood) where
  goes : goes_before f (kept_at kept m) ≡ r
  goes = sym (is-r ∙ ap (goes_before f) is-stood)

  pub taken : r ≡ true → (end : List ℕ) → end ≡ put (4 * m) (ride_words f) kept → end ≡ kept_with kept m f
  unfolding kept_with
  taken h end e = rw (goes, h) e

  pub passed : r ≡ false → kept ≡ kept_with kept m f
  unfolding kept_with
  passed h = rw (goes, h) refl

module _ (v : List ℕ) (l : Line) (x p j points : ℕ) (best kept : List ℕ) (a : ℕ) (is-a : a ≡ arrive_at v l p j) where
  pub too_late : 2880 ≤ a
      → kept ≡ kept_on best kept (ride_on v l x j (record { place = p; points = points }))
  unfolding kept_on
  too_late h = rw (le-ltb (arrive_at v l p j) 2880 (omega (arith, is-a))) refl

  module _
      (h : a < 2880)
      (stood : ℕ)
      (is-stood : stood ≡ get_or best a 0)
      (r : Bool)
      (is-r : r ≡ eqb points stood)
    where
      test : eqb points (get_or best a 0) ≡ r
      test = ap (eqb points) (sym is-stood) ∙ sym is-r

      pub too_dear : r ≡ false
          → kept ≡ kept_on best kept (ride_on v l x j (record { place = p; points = points }))
      unfolding kept_on
      too_dear g = rw (lt-ltb (arrive_at v l p j) 2880 (omega (arith, is-a)), ← is-a, test, g) refl

      pub kept_on_lem : r ≡ true → (d t : ℕ) → d ≡ depart_at v l x j → t ≡ number_at v l j → (end : List ℕ)
          → end ≡ kept_with kept a (record { depart = d; trip = t; board = x + 1; alight = p + 1 })
          → end ≡ kept_on best kept (ride_on v l x j (record { place = p; points = points }))
      unfolding kept_on
      kept_on_lem g d t is-d is_t end e =
          rw
          (lt-ltb (arrive_at v l p j) 2880 (omega (arith, is-a)), ← is-a, test, g)
          (e ∙ (λ i. kept_with kept a (record { depart = is-d i; trip = is_t i; board = x + 1; alight = p + 1 })))

-- some rides, then some more
keep_all_append : (best kept : List ℕ) (a b : List Ride)
    → keep_all best kept (a ++ b) ≡ keep_all best (keep_all best kept a) b
unfolding keep_all
keep_all_append best kept [] b = refl
keep_all_append best kept (r ∷ a) b = keep_all_append best (kept_on best kept r) a b

-- ---- all trips from place j on
module _ (v : List ℕ) (l : Line) (x p j points : ℕ) (best kept old : List ℕ) (first : ℕ)
    (so_far : keep_all best old (trips_from v l x first (record { place = p; points = points }))
    ≡ keep_all best kept (trips_from v l x j (record { place = p; points = points }))) where
  abbrev to_place : Reach
  to_place = record { place = p; points = points }

  pub trips_more : j < l.trips → (end : List ℕ)
      → end ≡ kept_on best kept (ride_on v l x j (record { place = p; points = points }))
      → keep_all best old (trips_from v l x first (record { place = p; points = points }))
      ≡ keep_all best end (trips_from v l x (j + 1) (record { place = p; points = points }))
  unfolding keep_all
  trips_more h end e =
      rw
      e
      (so_far ∙ ap (λ js. keep_all best kept (map (λ i. ride_on v l x i to_place) js)) (range_more j l.trips h))

  pub trips_done : l.trips ≤ j
      → kept ≡ keep_all best old (trips_from v l x first (record { place = p; points = points }))
  unfolding keep_all
  trips_done h =
      sym (so_far ∙ ap (λ js. keep_all best kept (map (λ i. ride_on v l x i to_place) js)) (range_none j l.trips h))

-- ---- to the nearest place
module _ (v : List ℕ) (g : Boarding) (first : ℕ) (best kept : List ℕ) (o : Option Place)
    (is : nearest (reach_by v g) ≡ found_at o) where
  pub kept_none : o ≡ None
      → kept
      ≡ keep_all best kept
      (concat_map (trips_from v g.line g.call.place first) (nearest (reach_by v g)))
  unfolding keep_all
  kept_none e = rw (nearest_none v g o is e)

  pub kept_nearest : (s : Place) → o ≡ Some s → (next : List ℕ)
      → next
      ≡ keep_all best kept
      (trips_from v g.line g.call.place first (record { place = s.place; points = s.points.0 }))
      → next
      ≡ keep_all best kept
      (concat_map (trips_from v g.line g.call.place first) (nearest (reach_by v g)))
  kept_nearest s e next f = rw (nearest_found v g o is s e, append-nil) f

-- ---- from call to call
module _ (v : List ℕ) (a u b : ℕ) (best old : List ℕ) where
  pub all_begins : (list rest : Piece) → calls_in v list ≡ calls_of v a → calls_in v rest ≡ calls_of v b
      → keep_all best old (near_read v a u b) ≡ keep_all best old (near_calls v u (calls_in v list) (calls_in v rest))
  unfolding near_read near_calls
  all_begins list rest e f = rw (e, f)

  module _ (kept : List ℕ) (k end : ℕ) (rest : Piece)
      (so_far : keep_all best old (near_read v a u b)
      ≡ keep_all best kept (near_calls v u (calls_in v (from k end)) (calls_in v rest))) where
    pub all_done : end ≤ k + 1 → kept ≡ keep_all best old (near_read v a u b)
    unfolding keep_all near_calls
    all_done h = sym (so_far ∙ ap (λ g. keep_all best kept (concat_map (near_leg v u) g)) (legs_none v u k end rest h))

    pub all_more : k + 1 < end → end ≤ length v → (g : Boarding) → BoardsAt v k rest g
        → (first : ℕ) → first ≡ first_trip v g.line g.call.place u → (next : List ℕ)
        → next ≡ keep_all best kept (concat_map (trips_from v g.line g.call.place first) (nearest (reach_by v g)))
        → keep_all best old (near_read v a u b)
        ≡ keep_all best next (near_calls v u (calls_in v (from (k + 2) end)) (calls_in v g.rest))
    unfolding near_calls
    all_more more inside g is first is-first next e =
        so_far
        ∙ ap (λ g. keep_all best kept (concat_map (near_leg v u) g)) (legs_more v u k end rest more inside g is)
        ∙ rw (e, is-first, is.line)
        (keep_all_append best kept _
        (concat_map (near_leg v u) (legs v (calls_in v (from (k + 2) end)) (calls_in v g.rest))))
