-- What a pass over the departures in their order leaves behind: the least penalties on arrival settle each other, stop
-- by stop. And the bounds of a valid timetable, stop by stop.
use Rattle.std.specs.Prelude.{◌≡◌, ◌⊎◌, List, ℕ, suc, ◌+◌, ◌≤◌, ◌<◌, get_or}
use Rattle.timetable.specs.Words.{station_count, stop_count}
use Rattle.timetable.specs.Timetable.{last_minute}
use Rattle.lists.specs.Lists.{◌∈◌}
use Rattle.connections.specs.Connections.{Change}
use Rattle.store_stops.specs.Stopwise.{
  station,
  arrive,
  depart,
  points,
  change_points,
  unreached,
  ways_of,
  Goes,
  Boards,
  Catches,
}

module _ (w : List ℕ) (a d : ℕ) (v : List ℕ) where
  -- who boards at stop i comes from nowhere else: it is the start,
  pub record FromStart (i : ℕ) : Type 0 where
    pub boards : Boards w i
    pub here : station w i ≡ a
    pub timely : d ≤ depart w i
    pub is : get_or v (suc i) 0 ≡ points w i

  -- or they stay aboard,
  pub record FromStop (i : ℕ) : Type 0 where
    pub k : ℕ
    pub goes : Goes w k
    pub next : suc k ≡ i
    pub is : get_or v (suc i) 0 ≡ get_or v i 0 + points w i

  -- or they change from another arrival
  pub record FromChange (i : ℕ) : Type 0 where
    pub k : ℕ
    pub price : ℕ
    pub goes : Goes w k
    pub catches : Catches w (suc k) i price
    pub is : get_or v (suc i) 0 ≡ get_or v (suc k) 0 + price + points w i

  pub record Settled : Type 0 where
    pub starts : (i : ℕ) → Boards w i → station w i ≡ a → d ≤ depart w i → get_or v (suc i) 0 ≤ points w i
    pub stays : (i : ℕ) → Goes w i → Goes w (suc i)
        → get_or v (suc (suc i)) 0 ≤ get_or v (suc i) 0 + points w (suc i)
    pub changes : (i g p : ℕ) → Goes w i → Catches w (suc i) g p
        → get_or v (suc g) 0 ≤ get_or v (suc i) 0 + p + points w g
    pub attained : (i : ℕ) → Goes w i → get_or v (suc i) 0 < unreached → FromStart i ⊎ (FromStop i ⊎ FromChange i)
    pub capped : (i : ℕ) → Goes w i → get_or v (suc i) 0 ≤ unreached

-- the bounds of a timetable with a yes to question 9
pub record Timely (w : List ℕ) : Type 0 where
  pub stops : stop_count w ≤ 2048
  pub few : (i : ℕ) → Goes w i → suc i < stop_count w
  pub before : (i : ℕ) → Goes w i → depart w i < arrive w (suc i)
  pub waits : (i : ℕ) → Goes w i → Goes w (suc i) → arrive w (suc i) ≤ depart w (suc i)
  pub minute : (i : ℕ) → Goes w i → arrive w (suc i) ≤ last_minute
  pub leaves : (i : ℕ) → Goes w i → depart w i ≤ last_minute
  pub cheap : (i : ℕ) → Goes w i → points w i ≤ 100
  pub first : (i : ℕ) → Goes w i → 1 ≤ station w i
  pub listed : (i : ℕ) → Goes w i → station w i ≤ station_count w
  pub next_first : (i : ℕ) → Goes w i → 1 ≤ station w (suc i)
  pub next_listed : (i : ℕ) → Goes w i → station w (suc i) ≤ station_count w
  pub most : (c : ℕ) → 1 ≤ c → c ≤ station_count w → change_points w c ≤ 1000
  pub way_most : (way : Change) → way ∈ ways_of w → way.points ≤ 1000
  -- behind a stop that is left again, a stop is left again exactly if it has a departure
  pub goes_on : (i : ℕ) → Goes w i → 1 ≤ depart w (suc i) → Goes w (suc i)
  pub ends : (i : ℕ) → Goes w i → Goes w (suc i) → 1 ≤ depart w (suc i)
