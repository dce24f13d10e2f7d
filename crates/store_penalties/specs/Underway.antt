-- Whoever is on the way left no earlier than minute d, and no later than the departure at hand.
use Rattle.std.specs.Prelude.{◌≡◌, List, ℕ, suc, ◌≤◌, ◌<◌, get_or}
use Rattle.std.proofs.Common.{subst, arith}
use Rattle.std.proofs.Math.Nat.{suc_inj}
use Rattle.std.proofs.Math.Decide.{dec_lt}
use Rattle.lists.specs.Lists.{◌∈◌}
use Rattle.store_stops.specs.Stopwise.{depart, unreached}
use Rattle.store_penalties.specs.Swept.{Swept}
use Rattle.store_penalties.specs.Split.{Place, goes_now, stop_most, fresh, earlier}

-- what is not less is the most
at_most : (x : ℕ) → x ≤ unreached → ¬ (x < unreached) → x ≡ unreached
at_most x h n = elim (dec_lt x unreached) [ yes l ↦ absurd (n l) | no l ↦ omega arith ]

module _
    {w : List ℕ}
    {a d : ℕ}
    {done left : List ℕ}
    {i : ℕ}
    (p : Place w done left i)
    {v q low : List ℕ}
    (s : Swept w a d done v q low)
  where
    pub on_the_way : (j : ℕ) → j < 2048 → get_or v j 0 < unreached → d ≤ depart w i
    on_the_way j h g =
        let r = s.reached j h g in
        omega (arith, r.timely, earlier p r.k r.gone)

    -- no one has arrived by the ride that begins at i
    pub not_yet : get_or v (suc i) 0 ≡ unreached
    not_yet = at_most (get_or v (suc i) 0) (s.v_most (suc i)) none
      where
        none : ¬ (get_or v (suc i) 0 < unreached)
        none h =
            let r = s.reached (suc i) (stop_most p i (goes_now p)) h in
            fresh p (subst (λ k. k ∈ done) (suc_inj r.next) r.gone)
