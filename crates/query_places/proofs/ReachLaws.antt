-- The calls in front of a list: those of the line that are open are places to ride to, until one is of another line.
use mathlib.Core.Path.{◌≡◌, sym, ap, ◌∙◌}
use mathlib.Core.Bool.{Bool, true, false}
use mathlib.Core.List.{List, [], ◌∷◌}
use Prim.Native.Nat.{ℕ, ◌+◌, ◌-◌, ◌≤◌, ◌<◌}
use borrow.Author.Tests.{eq-eqb, ne_eqb}
use lib.ListN.{length}
use Rattle.results.specs.declared.Points.{Points}
use Rattle.lines_lookup.specs.Lookup.{Line, boards_at, alights_at, total_at, points_between}
use Rattle.lines_lookup.specs.Calls.{Call, Boarding, call_at, calls_in}
use Rattle.lines_lookup.proofs.LookupLaws.{pairs_more, pairs_none}
use Rattle.query_places.specs.Candidates.{opens, reach_to, reach_of, reach_by, nearest}
use Rattle.query_places.specs.Turns.{from}
use Rattle.query_places.specs.Places.{rest, found_at}
use Rattle.std.specs.Prelude.{None, Some}

-- ---- the penalty, by two totals
module _ (v : List ℕ) (l : Line) (x y here there : ℕ) (is_here : here ≡ total_at v l x) (is : there ≡ total_at v l y)
  where
    pub total_left : (r : ℕ) → r ≡ there - here → r ≡ points_between v l x y
    total_left r left = left ∙ (λ i. is i - is_here i)

-- ---- what is left of the places to ride to
module _ (v : List ℕ) (l : Line) (c : Call) (k end : ℕ) where
  reach_none : end ≤ k + 1 → reach_of v l c (calls_in v (from k end)) ≡ []
  unfolding reach_of
  reach_none h = ap (reach_of v l c) (pairs_none v k end h)

  module _ (more : k + 1 < end) (inside : end ≤ length v) (d : Call) (is-d : d ≡ call_at v k) where
    front : calls_in v (from k end) ≡ d ∷ calls_in v (from (k + 2) end)
    front = pairs_more v k end more inside ∙ ap (λ d. d ∷ calls_in v (from (k + 2) end)) (sym is-d)

    reach_other : (d.line ≡ c.line → ⊥) → reach_of v l c (calls_in v (from k end)) ≡ []
    unfolding reach_of
    reach_other h = ap (reach_of v l c) front ∙ rw (ne_eqb d.line c.line h)

    module _ (same : d.line ≡ c.line) where
      reach_closed : opens v l c.place d.place ≡ false
          → reach_of v l c (calls_in v (from k end)) ≡ reach_of v l c (calls_in v (from (k + 2) end))
      unfolding reach_of
      reach_closed h = ap (reach_of v l c) front ∙ rw (eq-eqb d.line c.line same, h)

      reach_open : opens v l c.place d.place ≡ true
          → reach_of v l c (calls_in v (from k end)) ≡ reach_to v l c d ∷ reach_of v l c (calls_in v (from (k + 2) end))
      unfolding reach_of
      reach_open h = ap (reach_of v l c) front ∙ rw (eq-eqb d.line c.line same, h)

-- ---- both ends are open
module _ (v : List ℕ) (l : Line) (x y : ℕ) (b : Bool) (is_b : b ≡ boards_at v l x) where
  pub board_open : b ≡ true → (a : Bool) → a ≡ alights_at v l y → a ≡ opens v l x y
  unfolding opens
  board_open e a is-a = is-a ∙ rw (← is_b, e)

  pub board_closed : b ≡ false → false ≡ opens v l x y
  unfolding opens
  board_closed e = rw (← is_b, e)

-- ---- a loop over the calls that are left to alight at, which stands at index k
module _ (v : List ℕ) (g : Boarding) (k : ℕ) (so_far : rest v g g.rest.from ≡ rest v g k) where
  none_found : rest v g k ≡ [] → nearest (reach_by v g) ≡ found_at None
  unfolding rest nearest found_at
  none_found e = ap nearest (so_far ∙ e)

  pub place_none : g.rest.end ≤ k + 1 → nearest (reach_by v g) ≡ found_at None
  unfolding rest
  place_none h = none_found (reach_none v g.line g.call k g.rest.end h)

  module _ (more : k + 1 < g.rest.end) (inside : g.rest.end ≤ length v) (d : Call) (is-d : d ≡ call_at v k) where
    pub place_other : (d.line ≡ g.call.line → ⊥) → nearest (reach_by v g) ≡ found_at None
    unfolding rest
    place_other h = none_found (reach_other v g.line g.call k g.rest.end more inside d is-d h)

    module _
        (same : d.line ≡ g.call.line)
        (r : Bool)
        (is-r : r ≡ opens v g.line g.call.place d.place)
      where
        pub place_closed : r ≡ false → rest v g g.rest.from ≡ rest v g (k + 2)
        unfolding rest
        place_closed e =
            so_far ∙ reach_closed v g.line g.call k g.rest.end more inside d is-d same (sym is-r ∙ e)

        pub place_found : r ≡ true → (points : Points)
            → points.0 ≡ points_between v g.line g.call.place d.place
            → nearest (reach_by v g) ≡ found_at (Some (record { place = d.place; points = points }))
        unfolding rest nearest found_at
        place_found e points is-points =
            ap nearest
            (so_far ∙ reach_open v g.line g.call k g.rest.end more inside d is-d same (sym is-r ∙ e))
            ∙ (λ i. record { place = d.place; points = sym is-points i } ∷ [])
