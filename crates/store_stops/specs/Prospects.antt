-- What can still end well. An array e allows some penalty at each arrival: at arrival j one who has paid x ends well if
-- x is below word j. One who leaves stop i, having paid x, has prospects if riding on, ending and changing lead to such
-- an end.
use Rattle.std.specs.Prelude.{◌≡◌, ◌⊎◌, ◌↔◌, List, ℕ, zero, suc, ◌+◌, ◌≤◌, ◌<◌, get_or}
use Rattle.lists.specs.Lists.{◌∈◌}
use Rattle.connections.specs.Connections.{Change, Transfer, transfer}
use Rattle.store_stops.specs.Stopwise.{station, depart, points, nowhere, ways_of, Goes, CatchesBy}
use Rattle.store_stops.specs.Paid.{Arrived, OnFrontier}

-- e allows, where an arrival is on the frontier, what is paid there at least, and elsewhere nothing
pub record Allows (w : List ℕ) (a : ℕ) (v e : List ℕ) : Type 0 where
  pub within : (i x : ℕ) → Goes w i
      → (x < get_or e (suc i) 0) ↔ (OnFrontier w a v (suc i) × (x ≤ get_or v (suc i) 0))

module _ (w e : List ℕ) where
  -- by this way of changing after the arrival at stop j
  pub record OntoBy (Leaves : (g x : ℕ) → Type 0) (way : Change) (j x : ℕ) : Type 0 where
    pub g : ℕ
    pub catches : CatchesBy w way j g
    pub leaves : Leaves g (x + way.points)

  -- by any
  pub record Onto (Leaves : (g x : ℕ) → Type 0) (j x : ℕ) : Type 0 where
    pub way : Change
    pub onto : OntoBy Leaves way j x

  -- one who leaves stop i, having paid x, ends well within k stops ridden
  abbrev pub OnwardIn : (k i x : ℕ) → Type 0
  OnwardIn zero i x = ⊥
  OnwardIn (suc k) i x =
      (x + points w i < get_or e (suc i) 0)
      ⊎ ((Goes w (suc i) × OnwardIn k (suc i) (x + points w i)) ⊎ Onto (OnwardIn k) (suc i) (x + points w i))

  pub record Onward (i x : ℕ) : Type 0 where
    pub steps : ℕ
    pub on : OnwardIn steps i x

  -- one who arrives at stop j, having paid x, ends well after this change
  abbrev pub OntoWell : (way : Change) (j x : ℕ) → Type 0
  OntoWell way j x = OntoBy Onward way j x

-- what the code knows of changes: for a way of changing and an arrival the first stop that is caught, in a fixed order
-- of those of a station; q has for it the bound below which one who boards there or later in that order ends well
pub record Bounded (w e : List ℕ) (d : ℕ) (caught : Change → ℕ → ℕ) (q : List ℕ) : Type 0 where
  pub there : (way : Change) (i x : ℕ) → way ∈ ways_of w → station w (suc i) ≡ way.from → Goes w i → d ≤ depart w i
      → caught way (suc i) < nowhere
      → (x + way.points < get_or q (caught way (suc i)) 0) ↔ OntoWell w e way (suc i) x
  pub none : (way : Change) (i x : ℕ) → way ∈ ways_of w → station w (suc i) ≡ way.from → Goes w i → d ≤ depart w i
      → nowhere ≤ caught way (suc i) → ¬ OntoWell w e way (suc i) x

-- ---- the marks of one node, for one minute: rev are the changes, the last one first
module _ (w : List ℕ) (a d : ℕ) (e : List ℕ) (rev : List Transfer) where
  -- a connection along these changes ends well at station b
  pub record Ends (b : ℕ) : Type 0 where
    pub i : ℕ
    pub paid : ℕ
    pub goes : Goes w i
    pub arrived : Arrived w a d rev (suc i) paid
    pub here : station w (suc i) ≡ b
    pub within : paid < get_or e (suc i) 0

  -- one who goes along these changes and then makes change b can still end well
  pub record GoesOn (b : Transfer) : Type 0 where
    pub i : ℕ
    pub paid : ℕ
    pub way : Change
    pub goes : Goes w i
    pub arrived : Arrived w a d rev (suc i) paid
    pub is : transfer way ≡ b
    pub onto : OntoWell w e way (suc i) paid
