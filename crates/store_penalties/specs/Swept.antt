-- The least penalties while a pass goes over the departures in their order: v has those on arrival at a stop, low those
-- of boarding at a station by a change, now, and q those of a change to a departure, which low takes up when the pass
-- comes to it.
use Rattle.std.specs.Prelude.{◌≡◌, ◌⊎◌, ◌≢◌, List, ℕ, suc, ◌+◌, ◌≤◌, ◌<◌, min, get_or}
use Rattle.lists.specs.Lists.{◌∈◌}
use Rattle.connections.specs.Connections.{Change}
use Rattle.store_stops.specs.Stopwise.{station, depart, points, unreached, Goes, Boards, Catches}
use Rattle.store_stops.specs.OpenWays.{Open}
use Rattle.store_stops.specs.Settled.{FromStart, FromStop, FromChange}
use Rattle.store_departures.specs.Order.{catch_by}
use Rattle.store_penalties.specs.Offering.{Offering}

-- what one has paid who leaves at stop k, and changes so at the next
abbrev pub changed : (v : List ℕ) (k : ℕ) (way : Change) → ℕ
changed v k way = get_or v (suc k) 0 + way.points

-- stop j is the next after one of the departures
pub record Behind (w : List ℕ) (d : ℕ) (done : List ℕ) (j : ℕ) : Type 0 where
  pub k : ℕ
  pub gone : k ∈ done
  pub next : suc k ≡ j
  pub timely : d ≤ depart w k

module _ (w done v : List ℕ) where
  -- p is what one has paid who changes to the departure that is caught, f,
  pub record Offered (f p : ℕ) : Type 0 where
    pub k : ℕ
    pub way : Change
    pub gone : k ∈ done
    pub opened : Open w (suc k) way
    pub catches : catch_by w way (suc k) ≡ f
    pub is : p ≡ changed v k way

  -- or to one behind it, at station c
  pub record Waited (c p : ℕ) : Type 0 where
    pub k : ℕ
    pub way : Change
    pub gone : k ∈ done
    pub opened : Open w (suc k) way
    pub caught : catch_by w way (suc k) ∈ done
    pub there : way.to ≡ c
    pub is : p ≡ changed v k way

-- what the pass has left behind when these departures are done: penalties of changes, and on arrival
pub record Swept (w : List ℕ) (a d : ℕ) (done v q low : List ℕ) : Type 0 where
  pub q_most : (f : ℕ) → get_or q f 0 ≤ unreached
  pub low_most : (c : ℕ) → get_or low c 0 ≤ unreached
  pub offers : (k : ℕ) (way : Change) → k ∈ done → Open w (suc k) way
      → get_or q (catch_by w way (suc k)) 0 ≤ changed v k way
  pub offered : (f : ℕ) → f < 2048 → get_or q f 0 < unreached → Offered w done v f (get_or q f 0)
  pub waits : (k : ℕ) (way : Change) → k ∈ done → Open w (suc k) way → catch_by w way (suc k) ∈ done
      → get_or low way.to 0 ≤ changed v k way
  pub waited : (c : ℕ) → c < 65 → get_or low c 0 < unreached → Waited w done v c (get_or low c 0)
  pub v_most : (j : ℕ) → get_or v j 0 ≤ unreached
  pub reached : (j : ℕ) → j < 2048 → get_or v j 0 < unreached → Behind w d done j
  pub starts : (i : ℕ) → i ∈ done → Boards w i → station w i ≡ a → d ≤ depart w i → get_or v (suc i) 0 ≤ points w i
  pub stays : (i : ℕ) → Goes w i → suc i ∈ done → get_or v (suc (suc i)) 0 ≤ get_or v (suc i) 0 + points w (suc i)
  pub changes : (i g p : ℕ) → Goes w i → g ∈ done → Catches w (suc i) g p
      → get_or v (suc g) 0 ≤ get_or v (suc i) 0 + p + points w g
  pub attained : (i : ℕ) → i ∈ done → get_or v (suc i) 0 < unreached
      → FromStart w a d v i ⊎ (FromStop w a d v i ⊎ FromChange w a d v i)

module _ (w : List ℕ) (a d i : ℕ) where
  -- b is the least that one has paid who leaves stop i
  pub record Aboard (v low : List ℕ) (b : ℕ) : Type 0 where
    pub at_start : Boards w i → station w i ≡ a → d ≤ depart w i → b ≡ 0
    pub by_staying : b ≤ get_or v i 0
    pub by_changing : Boards w i → b ≤ get_or low (station w i) 0
    pub attained : b < unreached
        → (Boards w i × (station w i ≡ a) × (d ≤ depart w i) × (b ≡ 0))
        ⊎ ((b ≡ get_or v i 0) ⊎ (Boards w i × (b ≡ get_or low (station w i) 0)))

  -- what departure i makes of v, q and low
  pub record Turned (v q low v' q' low' : List ℕ) : Type 0 where
    pub b : ℕ
    pub aboard : Aboard v low' b
    pub low_here : get_or low' (station w i) 0 ≡ min (get_or low (station w i) 0) (get_or q i 0)
    pub low_else : (c : ℕ) → c ≢ station w i → get_or low' c 0 ≡ get_or low c 0
    pub v_here : get_or v' (suc i) 0 ≡ min unreached (b + points w i)
    pub v_else : (j : ℕ) → j ≢ suc i → get_or v' j 0 ≡ get_or v j 0
    pub offering : Offering w (suc i) (get_or v' (suc i) 0) (Open w (suc i)) q q'
