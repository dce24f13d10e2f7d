-- How the code comes from costs to rows: for each cost that leads, the ride that goes before all others of it. No
-- reader of the promise needs this file: Chosen shows that these rows are the result over the rides.
use Rattle.std.specs.Prelude.{Bool, cond, ◌&&◌, ◌||◌, List, [], ◌∷◌, map, ℕ, ◌-◌, ltb, eqb}
use Rattle.lists.specs.Lists.{filter, before}
use Rattle.results.specs.Results.{Cost}
use Rattle.connections.specs.Rides.{Ride}
use Rattle.query_kept.specs.declared.rides.Found.{Found as FoundStruct}

-- a ride that may be shown: the struct of src/
abbrev pub Found : Type 0
Found = FoundStruct

abbrev pub found_of : Ride → Found
found_of r = record { depart = r.depart; trip = r.trip; board = r.board; alight = r.alight }

-- none yet: every ride goes before it
abbrev pub no_found : Found
no_found = record { depart = 0; trip = 65536; board = 0; alight = 0 }

-- "the one shown departs latest. [..] Then its rides (trip, boarding stop, alighting stop) come first, compared number
-- by number": g goes before f
unfoldable pub goes_before : (g f : Found) → Bool
goes_before g f =
    ltb f.depart g.depart
    || (eqb g.depart f.depart
    && before (g.trip ∷ g.board ∷ g.alight ∷ []) (f.trip ∷ f.board ∷ f.alight ∷ []))

abbrev pub better : Found → Found → Found
better f g = cond (goes_before g f) g f

unfoldable pub pick_from : Found → List Ride → Found
pick_from f [] = f
pick_from f (r ∷ l) = pick_from (better f (found_of r)) l

-- the ride has arrival minute and penalty c
abbrev pub of_cost : Cost → Ride → Bool
of_cost c r = eqb r.arrive c.minutes && eqb r.points c.points

-- the ride shown for arrival minute and penalty c
abbrev pub pick_for : List Ride → Cost → Found
pick_for l c = pick_from no_found (filter (of_cost c) l)

-- the row for arrival minute and penalty c, for a query at minute u
abbrev pub row_for : (u : ℕ) → Cost → Found → List ℕ
row_for u c f = (c.minutes - u) ∷ c.points ∷ 1 ∷ f.trip ∷ f.board ∷ f.alight ∷ []

unfoldable pub rows_from : (u : ℕ) → List Ride → List Cost → List (List ℕ)
rows_from u l cs = map (λ c. row_for u c (pick_for l c)) cs
