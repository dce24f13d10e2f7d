-- For an accepted timetable no one on the way has paid more than 3,166,900 points: a minute of a ride costs 100 points
-- at the most, and each change, which costs 1,000 at the most, comes after a minute of a ride. So a value of 3,166,901
-- is large enough for what is not reached.
use Rattle.std.specs.Prelude.{List, [], ◌∷◌, ℕ, suc, ◌+◌, ◌*◌, ◌≤◌, ◌<◌, T}
use Rattle.std.proofs.Common.{arith}
use Rattle.timetable.specs.Timetable.{Timetable, valid}
use Rattle.connections.specs.Connections.{Transfer, net}
use Rattle.connections.proofs.Sound.{sound, ride_cheap, change_priced}
use Rattle.optimality.specs.Along.{Along, Reaches}

-- 2,879 * 1,100: for each minute 100 points of a ride and 1,000 of a change at most
abbrev pub penalty_most : ℕ
penalty_most = 3166900

module _ (t : Timetable) (v : T (valid t)) (a d : ℕ) where
  -- by minute u at most 1,100 points for each minute since the start
  reach_rate : (rev : List Transfer) (x u p : ℕ) → Along (net t) a d rev x u p → p + 1100 * d ≤ 1100 * u
  reach_rate [] x u p g = omega (arith, g.1, g.2)
  reach_rate (y ∷ rev) x u p g =
      let r = g.ride in
      let h = ride_cheap t v r g.listed in
      let f = (sound t v).forward r g.listed in
      let c = (change_priced t v g.change g.changes.listed).points_most in
      omega (arith, g.timely, g.total, reach_rate rev r.from r.depart g.paid g.below)

  reach_bound : (rev : List Transfer) (x u p : ℕ) → Along (net t) a d rev x u p → p ≤ penalty_most
  reach_bound [] x u p g = omega (arith, g.2)
  reach_bound (y ∷ rev) x u p g =
      let r = g.ride in
      let h = ride_cheap t v r g.listed in
      let f = (sound t v).forward r g.listed in
      let b = (sound t v).bounded r g.listed in
      let c = (change_priced t v g.change g.changes.listed).points_most in
      omega (arith, g.total, reach_rate rev r.from r.depart g.paid g.below)

  pub reach_most : (x u p : ℕ) → Reaches (net t) a d x u p → p < suc penalty_most
  reach_most x u p z = omega (arith, reach_bound z.changed x u p z.along)
