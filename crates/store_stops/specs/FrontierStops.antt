-- Frontiers stop by stop, where v has the least for each arrival: an arrival is on the frontier, by the arrivals of v,
-- exactly if its minute and penalty lie on the frontier of its station by all riders of the reckoning.
use Rattle.std.specs.Prelude.{◌≡◌, true, ◌≢◌, List, ℕ, suc, ◌≤◌, ◌<◌, ltb, get_or}
use Rattle.std.proofs.Common.{subst, arith, ltb→lt, nltb→le}
use Rattle.timetable.specs.Words.{is_timetable}
use Rattle.lists.specs.Tests.{either}
use Rattle.connections.specs.Connections.{Transfer}
use Rattle.optimality.specs.Along.{Arrives, Frontier}
use Rattle.store_stops.specs.Stopwise.{station, arrive, unreached, Goes, Alights}
use Rattle.store_stops.specs.Paid.{Arrived, LeastArrivals, OnFrontier}
use Rattle.store_stops.specs.Settled.{Timely}
use Rattle.store_stops.specs.RideStops.{net_of}
use Rattle.store_stops.specs.Riders.{arrived_ends, ends_arrived}
use Rattle.store_stops.specs.PaidBounds.{arrived_most}

-- an arrival is on the frontier, and p is what v has there
pub record Lies (w : List ℕ) (a : ℕ) (v : List ℕ) (i p : ℕ) : Type 0 where
  pub on : OnFrontier w a v (suc i)
  pub is : p ≡ get_or v (suc i) 0

module _ (w : List ℕ) (yes : is_timetable w ≡ true) (a d : ℕ) (v : List ℕ) (least : LeastArrivals w a d v) where
  -- a rider of the reckoning arrives at a stop, and has paid what v has there at least
  record Met (b u q : ℕ) : Type 0 where
    i : ℕ
    goes : Goes w i
    alights : Alights w (suc i)
    here : station w (suc i) ≡ b
    minute : arrive w (suc i) ≡ u
    low : get_or v (suc i) 0 ≤ q

  met : (b u q : ℕ) → Arrives (net_of w) a d b u q → Met b u q
  met b u q h =
      let e = ends_arrived w yes a d h.changed b u q h.ends in
      record {
        i = e.i;
        goes = e.goes;
        alights = e.alights;
        here = e.here;
        minute = e.minute;
        low = least.below e.i q e.goes (record { changed = h.changed; arrived = e.arrived });
      }

  -- the other way round, where someone arrives
  reaches : (i : ℕ) → Goes w i → Alights w (suc i) → get_or v (suc i) 0 < unreached
      → Arrives (net_of w) a d (station w (suc i)) (arrive w (suc i)) (get_or v (suc i) 0)
  reaches i g alights h =
      let z = least.attained i g h in
      let r = z.changed in
      record { changed = r; ends = arrived_ends w yes a d r (suc i) (get_or v (suc i) 0) z.arrived alights }

  pub on_frontier_lies : (i : ℕ) → OnFrontier w a v (suc i)
      → Frontier (net_of w) a d (station w (suc i)) (arrive w (suc i)) (get_or v (suc i) 0)
  on_frontier_lies i f = record { least = lies; first = lies_first }
    where
      lies : (u q : ℕ) → Arrives (net_of w) a d (station w (suc i)) u q → u ≤ arrive w (suc i)
          → get_or v (suc i) 0 ≤ q
      lies u q h g =
          let m = met (station w (suc i)) u q h in
          let e = m.minute in
          omega (arith, m.low, f.least m.i m.goes m.alights m.here (omega arith))

      lies_first : (u q : ℕ) → Arrives (net_of w) a d (station w (suc i)) u q → u < arrive w (suc i)
          → get_or v (suc i) 0 < q
      lies_first u q h g =
          let m = met (station w (suc i)) u q h in
          let e = m.minute in
          omega (arith, m.low, f.first m.i m.goes m.alights m.here (omega arith))

  -- an arrival whose minute and penalty lie on the frontier: the penalty is that of v
  pub lies_on_frontier : Timely w → (rev : List Transfer) (i p : ℕ) → Goes w i → Alights w (suc i)
      → Arrived w a d rev (suc i) p
      → Frontier (net_of w) a d (station w (suc i)) (arrive w (suc i)) p → station w (suc i) ≢ a → Lies w a v i p
  lies_on_frontier timely rev i p g alights h f other =
      record {
        on = record { alights = alights; elsewhere = other; reached = reached; least = on_least; first = on_first };
        is = is;
      }
    where
      low : get_or v (suc i) 0 ≤ p
      low = least.below i p g (record { changed = rev; arrived = h })

      bound : p < unreached
      bound = arrived_most w timely a d rev (suc i) p h

      reached : get_or v (suc i) 0 < unreached
      reached = omega (arith, low, bound)

      is : p ≡ get_or v (suc i) 0
      is =
          omega (
            arith,
            low,
            f.least (arrive w (suc i)) (get_or v (suc i) 0) (reaches i g alights reached)
                (omega arith),
          )

      -- what v has elsewhere at this station is that of someone who arrives, or is larger than any
      compare : (k : ℕ) → Goes w k → Alights w (suc k) → station w (suc k) ≡ station w (suc i) → {G : Type 0}
          → (Arrives (net_of w) a d (station w (suc i)) (arrive w (suc k)) (get_or v (suc k) 0) → G)
          → (unreached ≤ get_or v (suc k) 0 → G)
          → G
      compare k goes may e some none =
          either
          (ltb (get_or v (suc k) 0) unreached)
          (λ t. some (subst
          (λ b. Arrives (net_of w) a d b (arrive w (suc k)) (get_or v (suc k) 0))
          e
          (reaches k goes may (ltb→lt (get_or v (suc k) 0) unreached t))))
          (λ t. none (nltb→le (get_or v (suc k) 0) unreached t))

      on_least : (k : ℕ) → Goes w k → Alights w (suc k) → station w (suc k) ≡ station w (suc i)
          → arrive w (suc k) ≤ arrive w (suc i)
          → get_or v (suc i) 0 ≤ get_or v (suc k) 0
      on_least k goes may e late =
          compare
          k
          goes
          may
          e
          (λ z. omega (arith, is, f.least (arrive w (suc k)) (get_or v (suc k) 0) z late))
          (λ z. omega (arith, reached))

      on_first : (k : ℕ) → Goes w k → Alights w (suc k) → station w (suc k) ≡ station w (suc i)
          → arrive w (suc k) < arrive w (suc i)
          → get_or v (suc i) 0 < get_or v (suc k) 0
      on_first k goes may e late =
          compare
          k
          goes
          may
          e
          (λ z. omega (arith, is, f.first (arrive w (suc k)) (get_or v (suc k) 0) z late))
          (λ z. omega (arith, reached))
