-- At each call of a station the rides on the first trip are noted.
use mathlib.Core.Path.{◌≡◌, sym, ap, ◌∙◌}
use mathlib.Core.List.{List, map}
use Prim.Native.Nat.{ℕ, ◌+◌, ◌-◌, ◌≤◌, ◌<◌}
use native.Mathlib.Nat.{sub-zero}
use native.Mathlib.Omega.{arith}
use borrow.Author.Tests.{lt-ltb, le-ltb}
use lib.Dec.{leb}
use lib.ListN.{length}
use Rattle.lists.specs.Lists.{concat_map}
use Rattle.lines_lookup.specs.Lookup.{Line, depart_at, arrive_at}
use Rattle.lists.specs.First.{first_from}
use Rattle.lines_lookup.specs.First.{first_trip}
use Rattle.lines_lookup.specs.Calls.{Piece, Boarding, calls_of, calls_in, BoardsAt}
use Rattle.lines_lookup.proofs.FirstLaws.{none_left, found, goes_on}
use Rattle.query_places.specs.Candidates.{reach_by, nearest, legs, ride_on, first_on, first_leg, first_read}
use Rattle.query_minutes.specs.Minutes.{note_all, lowered}
use Rattle.query_places.specs.Turns.{first_calls, from, legs_none, legs_more}
use Rattle.query_minutes.proofs.NoteLaws.{note_all_append}
use Rattle.query_places.specs.Places.{found_at, nearest_none, nearest_found}
use Rattle.query_places.specs.declared.Place.{Place}
use Rattle.std.specs.Prelude.{Option, None, Some}

-- ---- the first trip: none before place j leaves in time
pub record Sought (v : List ℕ) (l : Line) (x u j : ℕ) : Type 0 where
  pub few : j ≤ l.trips
  pub so_far : first_trip v l x u ≡ first_from (λ j. leb u (depart_at v l x j)) j (l.trips - j)

pub sought_first : (v : List ℕ) (l : Line) (x u : ℕ) → Sought v l x u 0
sought_first v l x u = record { few = omega arith; so_far = rw sub-zero }

module _ (v : List ℕ) (l : Line) (x u j : ℕ) (k : Sought v l x u j) where
  pub sought_none : l.trips ≤ j → j ≡ first_trip v l x u
  sought_none h =
      let all : j ≡ l.trips = omega (arith, k.few) in
      all ∙ none_left v l x u j k.so_far k.few h

  module _ (more : j < l.trips) (r : ℕ) (is : r ≡ depart_at v l x j) where
    pub sought_here : u ≤ r → j ≡ first_trip v l x u
    sought_here = found v l x u j k.so_far r is more

    pub sought_next : r < u → Sought v l x u (j + 1)
    sought_next h = record { few = omega arith; so_far = goes_on v l x u j k.so_far r is more h }

-- ---- noting
module _ (v : List ℕ) (a u b : ℕ) (old : List ℕ) where
  pub first_begins : (list rest : Piece) → calls_in v list ≡ calls_of v a → calls_in v rest ≡ calls_of v b
      → note_all old (first_read v a u b) ≡ note_all old (first_calls v u (calls_in v list) (calls_in v rest))
  unfolding first_read first_calls
  first_begins list rest e f = rw (e, f)

  module _ (best : List ℕ) (k end : ℕ) (rest : Piece)
      (so_far : note_all old (first_read v a u b)
      ≡ note_all best (first_calls v u (calls_in v (from k end)) (calls_in v rest))) where
    pub first_done : end ≤ k + 1 → best ≡ note_all old (first_read v a u b)
    unfolding first_calls note_all
    first_done h = sym (so_far ∙ ap (λ g. note_all best (concat_map (first_leg v u) g)) (legs_none v u k end rest h))

    module _
        (more : k + 1 < end)
        (inside : end ≤ length v)
        (g : Boarding)
        (is : BoardsAt v k rest g)
        (first : ℕ)
        (is-first : first ≡ first_trip v g.line g.call.place u)
      where
        abbrev f : ℕ
        f = first_trip v g.line g.call.place u

        next : note_all old (first_read v a u b)
            ≡ note_all (note_all best (first_on v u g.line g.call.place (nearest (reach_by v g))))
            (first_calls v u (calls_in v (from (k + 2) end)) (calls_in v g.rest))
        unfolding first_calls
        next =
            so_far
            ∙ ap (λ g. note_all best (concat_map (first_leg v u) g)) (legs_more v u k end rest more inside g is)
            ∙ rw is.line
            (note_all_append best _
            (concat_map (first_leg v u) (legs v (calls_in v (from (k + 2) end)) (calls_in v g.rest))))

        pub no_trip : g.line.trips ≤ first
            → note_all old (first_read v a u b)
            ≡ note_all best (first_calls v u (calls_in v (from (k + 2) end)) (calls_in v g.rest))
        unfolding note_all
        no_trip h = rw (le-ltb f g.line.trips (omega (arith, is-first))) at next

        pub some_trip : first < g.line.trips → (end' : List ℕ)
            → end' ≡ note_all best (map (ride_on v g.line g.call.place first) (nearest (reach_by v g)))
            → note_all old (first_read v a u b)
            ≡ note_all end' (first_calls v u (calls_in v (from (k + 2) end)) (calls_in v g.rest))
        some_trip h end' e = rw (e, is-first) (rw (lt-ltb f g.line.trips (omega (arith, is-first))) at next)

-- ---- the ride to the nearest place
module _ (v : List ℕ) (g : Boarding) (j : ℕ) (best : List ℕ) (o : Option Place)
    (is : nearest (reach_by v g) ≡ found_at o) where
  pub noted_none : o ≡ None
      → best ≡ note_all best (map (ride_on v g.line g.call.place j) (nearest (reach_by v g)))
  unfolding note_all
  noted_none e = rw (nearest_none v g o is e)

  pub noted_nearest : (s : Place) → o ≡ Some s → (m : ℕ) → m ≡ arrive_at v g.line s.place j
      → (next : List ℕ) → next ≡ lowered best m s.points.0
      → next ≡ note_all best (map (ride_on v g.line g.call.place j) (nearest (reach_by v g)))
  unfolding note_all
  noted_nearest s e m is_m next f =
      rw (nearest_found v g o is s e) (f ∙ ap (λ m. lowered best m s.points.0) is_m)
