-- Which of two rides comes first, number by number: where all numbers before are the same, the next one decides.
use mathlib.Core.Path.{◌≡◌, refl, sym, ap, ◌∙◌}
use mathlib.Core.Bool.{Bool, true, false, ◌&&◌, ◌||◌}
use mathlib.Core.List.{[], ◌∷◌}
use Prim.Native.Nat.{ℕ, ◌-◌, ◌≤◌, ◌<◌}
use lib.Dec.{ltb, eqb}
use Rattle.lists.specs.Lists.{before}
use Rattle.lists.specs.Order.{first_less, first_more, first_same, last_number}
use Rattle.query_rides.specs.declared.Ride.{Ride as RideStruct}
use Rattle.query_shown.specs.Heads.{lateness}
use Rattle.query_shown.specs.Turns.{numbers_before, comes_before}

pub late_first : (first : Bool) (depart r : ℕ) → first ≡ true → r ≡ 2879 - depart → r ≡ lateness first depart
late_first first depart r e h = h ∙ sym (ap (λ b. lateness b depart) e)

module _ (g f : RideStruct) where
  -- what decides behind the trip
  abbrev by_places : Bool
  by_places = before (g.board ∷ g.alight ∷ []) (f.board ∷ f.alight ∷ [])

  by_trip_lem : (ltb g.trip f.trip || (eqb g.trip f.trip && by_places)) ≡ numbers_before g f
  unfolding numbers_before
  by_trip_lem = refl

  pub trip_first : g.trip < f.trip → true ≡ numbers_before g f
  trip_first h = sym (first_less g.trip f.trip by_places h) ∙ by_trip_lem

  pub trip_later : f.trip < g.trip → false ≡ numbers_before g f
  trip_later h = sym (first_more g.trip f.trip by_places h) ∙ by_trip_lem

  module _ (t : f.trip ≤ g.trip) (u : g.trip ≤ f.trip) where
    same_trip_lem : numbers_before g f ≡ by_places
    same_trip_lem = sym by_trip_lem ∙ first_same g.trip f.trip by_places t u

    pub board_first : g.board < f.board → true ≡ numbers_before g f
    board_first h = sym (same_trip_lem ∙ first_less g.board f.board _ h)

    pub board_later : f.board < g.board → false ≡ numbers_before g f
    board_later h = sym (same_trip_lem ∙ first_more g.board f.board _ h)

    pub alight_decides : f.board ≤ g.board → g.board ≤ f.board → ltb g.alight f.alight ≡ numbers_before g f
    alight_decides k h =
        sym (same_trip_lem ∙ first_same g.board f.board _ k h ∙ last_number g.alight f.alight)

  module _
      (first : Bool)
      (a b : ℕ)
      (is-a : a ≡ lateness first g.depart)
      (is_b : b ≡ lateness first f.depart)
    where
      by_key : (ltb a b || (eqb a b && numbers_before g f)) ≡ comes_before first g f
      unfolding comes_before numbers_before
      by_key = λ i. ltb (is-a i) (is_b i) || (eqb (is-a i) (is_b i) && numbers_before g f)

      pub departs_first : a < b → true ≡ comes_before first g f
      departs_first h = sym (first_less a b (numbers_before g f) h) ∙ by_key

      pub departs_later : b < a → false ≡ comes_before first g f
      departs_later h = sym (first_more a b (numbers_before g f) h) ∙ by_key

      pub numbers_decide : (r : Bool) → b ≤ a → a ≤ b → r ≡ numbers_before g f → r ≡ comes_before first g f
      numbers_decide r d e h = h ∙ sym (first_same a b (numbers_before g f) d e) ∙ by_key
