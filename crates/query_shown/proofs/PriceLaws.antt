-- What one pays in front of a ride, and where it is boarded.
use mathlib.Core.Path.{◌≡◌, ap, subst}
use mathlib.Core.Bool.{Bool, true, false, not, cond}
use mathlib.Core.List.{List}
use Prim.Native.Nat.{ℕ, ◌+◌, ◌-◌, ◌*◌, ◌≤◌, ◌<◌}
use native.Mathlib.Omega.{arith}
use borrow.Author.Tests.{lt-ltb, le-ltb, not-true, not-false}
use lib.ListN.{get_or}
use Rattle.results.specs.declared.Cost.{Cost}
use Rattle.query_rides.specs.declared.Way.{Way}
use Rattle.query_rides.specs.Ways.{cost_of, cost_in}
use Rattle.query_shown.specs.declared.Step.{Step}
use Rattle.query_shown.specs.Prices.{step_price, price_of, front_price}
use Rattle.query_shown.specs.OnTheWay.{boarded_at}

-- ---- the price of a step
module _
    (stay : Cost)
    (m : ℕ)
    (step : Step)
    (c : Cost)
    (is_c : c ≡ cost_of stay step.change)
    (ready : ℕ)
    (is : ready ≡ m + c.minutes.0)
  where
    abbrev cost : Cost
    cost = cost_of stay step.change

    abbrev d : ℕ
    d = step.ride.depart

    pub price_late : step.ride.depart < ready
        → 4294967295 ≡ step_price (cost_of stay step.change) m step.ride.depart
    unfolding step_price
    price_late h = rw (lt-ltb d (m + cost.minutes.0) (omega (arith, is, ap (λ c. c.minutes.0) is_c)))

    pub price_timely : ready ≤ step.ride.depart
        → c.points.0 ≡ step_price (cost_of stay step.change) m step.ride.depart
    unfolding step_price
    price_timely h =
        rw (le-ltb d (m + cost.minutes.0) (omega (arith, is, ap (λ c. c.minutes.0) is_c)))
        (ap (λ c. c.points.0) is_c)

-- ---- in front of a ride
module _ (first : Bool) (g : Way) (m d : ℕ) where
  pub front_none : first ≡ true → 0 ≡ front_price first g m d
  unfolding front_price
  front_none e = rw e

  module _ (e : first ≡ false) where
    pub front_shut : not g.found ≡ true → 4294967295 ≡ front_price first g m d
    unfolding front_price price_of
    front_shut h = rw (e, not-true g.found h)

    pub front_paid : not g.found ≡ false → (k : ℕ) → k ≡ step_price (cost_in g) m d → k ≡ front_price first g m d
    unfolding front_price price_of
    front_paid h k is = rw (e, not-false g.found h) is

-- ---- where it is boarded
module _ (path : List ℕ) (first : Bool) (i alighted : ℕ) where
  pub boards_first : first ≡ true → alighted ≡ boarded_at path first i alighted
  unfolding boarded_at
  boards_first e = rw e

  pub boards_later : first ≡ false → (r : ℕ) → r ≡ get_or path (2 * i - 1) 0 → r ≡ boarded_at path first i alighted
  unfolding boarded_at
  boards_later e r is = rw e is

  pub boards_past : first ≡ false → cond first 0 1 ≤ i → 1 ≤ 2 * i
  boards_past e h =
      let some : 1 ≤ i = subst (λ b. cond b 0 1 ≤ i) e h in
      omega arith
