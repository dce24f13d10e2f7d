-- The places of a line that are left to ride to, one after the other, as the code goes through them, and the nearest,
-- which it finds first.
use Rattle.std.specs.Prelude.{List, [], ◌∷◌, ◌≡◌, ℕ, Option, None, Some}
use Rattle.std.proofs.Common.{ap, ◌∙◌}
use Rattle.lines_lookup.specs.Calls.{Boarding, calls_in}
use Rattle.query_places.specs.Candidates.{Reach, reach_of, reach_by, nearest}
use Rattle.query_places.specs.declared.Place.{Place}

-- from the call at index k on
unfoldable pub rest : List ℕ → (g : Boarding) (k : ℕ) → List Reach
rest v g k = reach_of v g.line g.call (calls_in v (record { from = k; end = g.rest.end }))

-- the place at which one alights, and the penalty of the ride to it
abbrev pub reach_at : Place → Reach
reach_at s = record { place = s.place; points = s.points.0 }

-- the place that is found, if one is
unfoldable pub found_at : Option Place → List Reach
found_at None = []
found_at (Some s) = reach_at s ∷ []

module _ (v : List ℕ) (g : Boarding) (o : Option Place) (is : nearest (reach_by v g) ≡ found_at o) where
  pub nearest_none : o ≡ None → nearest (reach_by v g) ≡ []
  unfolding found_at
  nearest_none e = is ∙ ap found_at e

  pub nearest_found : (s : Place) → o ≡ Some s → nearest (reach_by v g) ≡ reach_at s ∷ []
  unfolding found_at
  nearest_found s e = is ∙ ap found_at e
