-- The array of catches: at each arrival's stop the first departure that a change at the station itself reaches.
use Rattle.std.specs.Prelude.{◌≡◌, List, ℕ, suc, ◌<◌, leb, get_or}
use Rattle.lists.specs.Lists.{first_of}
use Rattle.store_stops.specs.Stopwise.{depart, nowhere, Goes}
use Rattle.store_departures.specs.Order.{first_or, waiting, catch}

-- the first of the list that is left at the minute or later
unfoldable pub first_ready : (w : List ℕ) (minute : ℕ) → List ℕ → ℕ
first_ready w minute l = first_or nowhere (first_of (λ g. leb minute (depart w g)) l)

-- the first departure of station c that is left at the minute or later
unfoldable pub soonest : (w : List ℕ) (c minute : ℕ) → ℕ
soonest w c minute = first_ready w minute (waiting w c)

pub record Caught (w catches : List ℕ) : Type 0 where
  pub fits : (j : ℕ) → get_or catches j 0 < 65536
  pub is : (i : ℕ) → Goes w i → get_or catches (suc i) 0 ≡ catch w (suc i)
