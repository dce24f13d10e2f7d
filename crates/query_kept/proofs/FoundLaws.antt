-- Which of two rides is shown, number by number: where all numbers before are the same, the next one decides.
use mathlib.Core.Path.{◌≡◌, sym, ◌∙◌}
use mathlib.Core.List.{[], ◌∷◌}
use mathlib.Core.Bool.{Bool, true, false}
use Prim.Native.Nat.{◌≤◌, ◌<◌}
use native.Mathlib.Omega.{arith}
use borrow.Author.Tests.{lt-ltb, le-ltb, eq-eqb, ne_eqb}
use lib.Dec.{ltb}
use Rattle.lists.specs.Lists.{before}
use Rattle.lists.specs.Order.{first_less, first_more, first_same, last_number}
use Rattle.query_kept.specs.Choosing.{Found, goes_before}

-- what decides behind the departure, and behind the trip
abbrev by_numbers : (g f : Found) → Bool
by_numbers g f = before (g.trip ∷ g.board ∷ g.alight ∷ []) (f.trip ∷ f.board ∷ f.alight ∷ [])

abbrev by_places : (g f : Found) → Bool
by_places g f = before (g.board ∷ g.alight ∷ []) (f.board ∷ f.alight ∷ [])

module _ (g f : Found) where
  pub departs_later : f.depart < g.depart → true ≡ goes_before g f
  unfolding goes_before
  departs_later h = simp (lt-ltb f.depart g.depart h)

  pub departs_earlier : g.depart < f.depart → false ≡ goes_before g f
  unfolding goes_before
  departs_earlier h =
      simp (le-ltb f.depart g.depart (omega arith), ne_eqb g.depart f.depart (omega arith))

  module _ (d : g.depart ≤ f.depart) (e : f.depart ≤ g.depart) where
    same_depart : goes_before g f ≡ by_numbers g f
    unfolding goes_before
    same_depart = simp (le-ltb f.depart g.depart d, eq-eqb g.depart f.depart (omega arith))

    pub trip_first : g.trip < f.trip → true ≡ goes_before g f
    trip_first h = sym (same_depart ∙ first_less g.trip f.trip _ h)

    pub trip_later : f.trip < g.trip → false ≡ goes_before g f
    trip_later h = sym (same_depart ∙ first_more g.trip f.trip _ h)

    module _ (t : f.trip ≤ g.trip) (u : g.trip ≤ f.trip) where
      same_trip_lem : goes_before g f ≡ by_places g f
      same_trip_lem = same_depart ∙ first_same g.trip f.trip _ t u

      pub board_first : g.board < f.board → true ≡ goes_before g f
      board_first h = sym (same_trip_lem ∙ first_less g.board f.board _ h)

      pub board_later : f.board < g.board → false ≡ goes_before g f
      board_later h = sym (same_trip_lem ∙ first_more g.board f.board _ h)

      pub alight_decides : f.board ≤ g.board → g.board ≤ f.board
          → ltb g.alight f.alight ≡ goes_before g f
      alight_decides k h =
          sym (same_trip_lem ∙ first_same g.board f.board _ k h ∙ last_number g.alight f.alight)
