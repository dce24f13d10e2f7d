-- Riders on their way, stop by stop, for a start at station a from minute d on: what they have paid when they board,
-- and when they arrive. The same as Along and Ends of the reckoning, without rides.
use Rattle.std.specs.Prelude.{◌≡◌, ◌≢◌, List, [], ◌∷◌, ℕ, suc, ◌+◌, ◌≤◌, ◌<◌, get_or}
use Rattle.connections.specs.Connections.{Transfer}
use Rattle.store_stops.specs.Stopwise.{station, arrive, depart, unreached, Goes, Boards}
use Rattle.store_stops.specs.Stopwise.{Alights, Ridden, ridden, Catches}

module _ (w : List ℕ) (a d : ℕ) where
  -- aboard on arrival at stop j, having paid p, from a boarding as told below
  pub record Rode (Boards : (i p : ℕ) → Type 0) (j p : ℕ) : Type 0 where
    pub from : ℕ
    pub stops : ℕ
    pub paid : ℕ
    pub boards : Boards from paid
    pub some : 1 ≤ stops
    pub rides : Ridden w from stops
    pub to : from + stops ≡ j
    pub total : p ≡ paid + ridden w from stops

  -- by a change from one station to another after such a ride
  pub record Changed (Boards : (i p : ℕ) → Type 0) (c : Transfer) (g p : ℕ) : Type 0 where
    pub at : ℕ
    pub before : ℕ
    pub price : ℕ
    pub rode : Rode Boards at before
    pub here : station w at ≡ c.alighted
    pub there : station w g ≡ c.boarded
    pub catches : Catches w at g price
    pub total : p ≡ before + price

  -- can board at stop g, having paid p and changed so, the last change first
  abbrev pub Paid : (changed : List Transfer) (g p : ℕ) → Type 0
  Paid [] g p = Boards w g × (station w g ≡ a) × (d ≤ depart w g) × (p ≡ 0)
  Paid (c ∷ rev) g p = Changed (Paid rev) c g p

  -- is aboard on arrival at stop j, having paid p and changed so
  abbrev pub Arrived : (changed : List Transfer) (j p : ℕ) → Type 0
  Arrived rev j p = Rode (Paid rev) j p

  -- whatever the changes were
  pub record Arrives (j p : ℕ) : Type 0 where
    pub changed : List Transfer
    pub arrived : Arrived changed j p

  -- v has for each arrival the least that can have been paid
  pub record LeastArrivals (v : List ℕ) : Type 0 where
    pub attained : (i : ℕ) → Goes w i → get_or v (suc i) 0 < unreached → Arrives (suc i) (get_or v (suc i) 0)
    pub below : (i p : ℕ) → Goes w i → Arrives (suc i) p → get_or v (suc i) 0 ≤ p
    pub capped : (i : ℕ) → Goes w i → get_or v (suc i) 0 ≤ unreached

  -- x has for each boarding at station c the least that can have been paid by who changed so
  pub record Labelled (rev : List Transfer) (c : ℕ) (x : List ℕ) : Type 0 where
    pub attained : (g : ℕ) → Boards w g → station w g ≡ c → get_or x g 0 < unreached → Paid rev g (get_or x g 0)
    pub below : (g p : ℕ) → Boards w g → station w g ≡ c → Paid rev g p → get_or x g 0 ≤ p
    pub capped : (g : ℕ) → Boards w g → station w g ≡ c → get_or x g 0 ≤ unreached

-- "minute and penalty lie on the frontier": one may alight at stop j, which is elsewhere than at a; where v has the
-- least for each arrival, no one alights there by then for less, and earlier only for more
pub record OnFrontier (w : List ℕ) (a : ℕ) (v : List ℕ) (j : ℕ) : Type 0 where
  pub alights : Alights w j
  pub elsewhere : station w j ≢ a
  pub reached : get_or v j 0 < unreached
  pub least : (i : ℕ) → Goes w i → Alights w (suc i) → station w (suc i) ≡ station w j → arrive w (suc i) ≤ arrive w j
      → get_or v j 0 ≤ get_or v (suc i) 0
  pub first : (i : ℕ) → Goes w i → Alights w (suc i) → station w (suc i) ≡ station w j → arrive w (suc i) < arrive w j
      → get_or v j 0 < get_or v (suc i) 0
