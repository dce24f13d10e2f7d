-- One who leaves a stop ends well at the next stop, by staying aboard or by a change there.
use Rattle.std.specs.Prelude.{◌⊎◌, ◌↔◌, List, ℕ, zero, suc, ◌+◌, ◌<◌, get_or}
use Rattle.std.proofs.Common.{inl, inr}
use Rattle.store_stops.specs.Stopwise.{points, Goes}
use Rattle.store_stops.specs.Prospects.{Onto, OnwardIn, Onward}

module _ (w e : List ℕ) (i x : ℕ) where
  abbrev pub Ways : Type 0
  Ways =
      (x + points w i < get_or e (suc i) 0)
      ⊎ ((Goes w (suc i) × Onward w e (suc i) (x + points w i)) ⊎ Onto w e (Onward w e) (suc i) (x + points w i))

  within : (k : ℕ) → OnwardIn w e k i x → Ways
  within zero h = absurd h
  within (suc k) (inl h) = inl h
  within (suc k) (inr (inl h)) = inr (inl (h.0, record { steps = k; on = h.1 }))
  within (suc k) (inr (inr h)) =
      let o = h.onto in
      inr (inr (record {
        way = h.way;
        onto = record { g = o.g; catches = o.catches; leaves = record { steps = k; on = o.leaves } };
      }))

  further : Ways → Onward w e i x
  further (inl h) = record { steps = 1; on = inl h }
  further (inr (inl h)) = record { steps = suc h.1.steps; on = inr (inl (h.0, h.1.on)) }
  further (inr (inr h)) =
      let o = h.onto in
      record {
        steps = suc o.leaves.steps;
        on =
            inr (inr (record {
              way = h.way;
              onto = record { g = o.g; catches = o.catches; leaves = o.leaves.on };
            }));
      }

  pub onward_ways : Onward w e i x ↔ Ways
  onward_ways = (λ o. within o.steps o.on, further)
