-- Where the pass begins and ends: with the departures before minute d done no one has arrived anywhere, and with all
-- departures done the penalties settle each other.
use Rattle.std.specs.Prelude.{◌≡◌, List, ℕ, suc, ◌≤◌, ◌<◌, length, get_or, replicate}
use Rattle.std.proofs.Common.{arith}
use Rattle.std.proofs.Math.Decide.{dec_lt}
use Rattle.std.proofs.lemmas.List.{length-replicate, get_or-replicate}
use Rattle.std.proofs.Math.ListN.{get_or-eq_default}
use Rattle.lists.specs.Lists.{◌∈◌}
use Rattle.store_stops.specs.Stopwise.{depart, unreached, Goes}
use Rattle.store_stops.specs.Settled.{Timely, Settled}
use Rattle.store_departures.specs.Order.{order, catch_by, InOrder}
use Rattle.store_penalties.specs.Swept.{Swept}

-- ---- no one on the way
-- the first n words are unreached, and no word is more
pub record Blank (n : ℕ) (l : List ℕ) : Type 0 where
  pub each : (j : ℕ) → j < n → get_or l j 0 ≡ unreached
  pub most : (j : ℕ) → get_or l j 0 ≤ unreached

pub blank : (n m : ℕ) → n ≤ m → Blank n (replicate m unreached)
blank n m h = record { each = λ j g. full j (omega arith); most = most }
  where
    full : (j : ℕ) → j < m → get_or (replicate m unreached) j 0 ≡ unreached
    full j g = get_or-replicate m j unreached 0 g

    most : (j : ℕ) → get_or (replicate m unreached) j 0 ≤ unreached
    most j =
        elim (dec_lt j m) [
          | yes g ↦ omega (arith, full j g)
          | no g ↦
              (let past : length (replicate m unreached) ≤ j = omega (arith, length-replicate {A = ℕ} m unreached) in
              omega (arith, get_or-eq_default (replicate m unreached) 0 {n = j} past))
        ]

-- where all that is done left before minute d
module _ (w : List ℕ) (a d : ℕ) (done : List ℕ) (timely : Timely w) (goes : (i : ℕ) → i ∈ done → Goes w i)
    (early : (i : ℕ) → i ∈ done → depart w i < d) (v q low : List ℕ) (no-v : Blank 2048 v) (no-q : Blank 2048 q)
    (no-low : Blank 65 low) where
  far : (i : ℕ) → Goes w i → get_or v (suc i) 0 ≡ unreached
  far i g = no-v.each (suc i) (omega (arith, timely.few i g, timely.stops))

  pub swept_early : Swept w a d done v q low
  swept_early =
      record {
        q_most = no-q.most;
        low_most = no-low.most;
        offers = λ i way m o. omega (arith, no-q.most (catch_by w way (suc i)), far i (goes i m));
        offered = λ f h g. absurd (omega (arith, no-q.each f h));
        waits = λ i way m o c. omega (arith, no-low.most way.to, far i (goes i m));
        waited = λ c h g. absurd (omega (arith, no-low.each c h));
        v_most = no-v.most;
        reached = λ j h g. absurd (omega (arith, no-v.each j h));
        starts = λ i o b e h. absurd (omega (arith, early i o));
        stays = λ i g o. omega (arith, no-v.most (suc (suc i)), far i g);
        changes = λ i g p h o c. omega (arith, no-v.most (suc g), far i h);
        attained = λ i o h. absurd (omega (arith, far i (goes i o)));
      }

-- ---- all done
pub settles : (w : List ℕ) (a d : ℕ) (v q low : List ℕ) → InOrder w → Swept w a d (order w) v q low → Settled w a d v
settles w a d v q low o s =
    record {
      starts = λ i b. s.starts i (o.all i b.goes) b;
      stays = λ i g h. s.stays i g (o.all (suc i) h);
      changes = λ i g p h c. s.changes i g p h (o.all g c.catches.boards.goes) c;
      attained = λ i g. s.attained i (o.all i g);
      capped = λ i g. s.v_most (suc i);
    }
