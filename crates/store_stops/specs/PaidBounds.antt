-- No one on the way has paid 3,166,901 points, stop by stop: a stop ridden from costs 100 points at the most and takes
-- a minute at least, and each change, which costs 1,000 at the most, comes after a minute of a ride.
use Rattle.std.specs.Prelude.{◌≡◌, List, [], ◌∷◌, ℕ, zero, suc, ◌+◌, ◌*◌, ◌≤◌, ◌<◌}
use Rattle.std.proofs.Common.{ap, subst, arith}
use Rattle.connections.specs.Connections.{Transfer}
use Rattle.store_stops.specs.Stopwise.{arrive, depart, points, unreached, Goes, Ridden, ridden}
use Rattle.store_stops.specs.Paid.{Changed, Paid, Arrived}
use Rattle.store_stops.specs.Settled.{Timely}
use Rattle.store_stops.specs.RideStops.{ridden_one, ridden_more}
use Rattle.store_stops.specs.LeastSettled.{arrived_behind}

module _ (w : List ℕ) (timely : Timely w) where
  -- a ride takes a minute at least, and costs 100 points for each of its minutes at the most
  pub record Cheap (i k : ℕ) : Type 0 where
    pub forward : depart w i < arrive w (suc (i + k))
    pub cheap : ridden w i (suc k) + 100 * depart w i ≤ 100 * arrive w (suc (i + k))

  pub stops_cheap : (k i : ℕ) → Ridden w i (suc k) → Cheap i k
  stops_cheap zero i r =
      let e : i + 0 ≡ i = omega arith in
      let g = subst (Goes w) e (r 0 (omega arith)) in
      let to = ap (λ j. arrive w (suc j)) e in
      let forward = timely.before i g in
      record { forward = omega arith; cheap = omega (arith, timely.cheap i g, ridden_one w i) }
  stops_cheap (suc k) i r =
      let e : i + suc k ≡ suc (i + k) = omega arith in
      let b = stops_cheap k i (λ j h. r j (omega arith)) in
      let g = subst (Goes w) e (r (suc k) (omega arith)) in
      let waits = timely.waits (i + k) (r k (omega arith)) g in
      let forward = timely.before (suc (i + k)) g in
      let to = ap (λ j. arrive w (suc j)) e in
      let p = ap (points w) e in
      record {
        forward = omega (arith, b.forward);
        cheap = omega (arith, b.cheap, timely.cheap (suc (i + k)) g, ridden_more w i (suc k));
      }

  module _ (a d : ℕ) where
    -- 1,100 points for each minute since the start at the most
    abbrev Rate : List Transfer → Type 0
    Rate rev = (g p : ℕ) → Paid w a d rev g p → p + 1100 * d ≤ 1100 * depart w g

    -- on arrival less by what a change costs at the most
    arrived_rate : (rev : List Transfer) → Rate rev → (j p : ℕ) → Arrived w a d rev j p
        → p + 1100 * d + 1000 ≤ 1100 * arrive w j
    arrived_rate rev rate j p h = go h.stops h.some h.rides h.to h.total
      where
        go : (n : ℕ) → 1 ≤ n → Ridden w h.from n → h.from + n ≡ j → p ≡ h.paid + ridden w h.from n
            → p + 1100 * d + 1000 ≤ 1100 * arrive w j
        go zero o r e t = absurd (omega arith)
        go (suc k) o r e t =
            let c = stops_cheap k h.from r in
            let f : suc (h.from + k) ≡ j = omega (arith, e) in
            let to = ap (arrive w) f in
            omega (arith, c.forward, c.cheap, t, rate h.from h.paid h.boards)

    change_rate : (rev : List Transfer) (c : Transfer) (g p : ℕ) (h : Changed w a d (Paid w a d rev) c g p)
        → h.before + 1100 * d + 1000 ≤ 1100 * arrive w h.at → p + 1100 * d ≤ 1100 * depart w g
    change_rate rev c g p h b =
        let k = h.catches.catches in
        let most = timely.way_most h.catches.way k.listed in
        omega (arith, b, h.total, h.catches.price, k.timely)

    paid_rate : (rev : List Transfer) → Rate rev
    paid_rate [] g p h = omega (arith, h.2, h.3)
    paid_rate (c ∷ rev) g p h =
        change_rate rev c g p h (arrived_rate rev (paid_rate rev) h.at h.before h.rode)

    -- no one arrives having paid as much
    pub arrived_most : (rev : List Transfer) (j p : ℕ) → Arrived w a d rev j p → p < unreached
    arrived_most rev j p h =
        let k = arrived_behind w a d rev j p h in
        let e = ap (arrive w) k.2 in
        omega (arith, e, timely.minute k.0 k.1, arrived_rate rev (paid_rate rev) j p h)

    -- nor boards
    pub paid_most : (rev : List Transfer) (g p : ℕ) → Goes w g → Paid w a d rev g p → p < unreached
    paid_most rev g p goes h = omega (arith, timely.leaves g goes, paid_rate rev g p h)
