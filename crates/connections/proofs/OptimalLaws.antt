-- Theorems 2 and 3. An optimal connection is optimal at its own departure minute, and what is left of it after a change
-- is optimal from there. It alights at no station twice, since one could have gone on from there the first time, or
-- stayed at the target; and it boards at no station twice, the source included, since one could have waited there. So
-- it has at most 64 rides. It may alight at its source, to walk from there, and board at its target, after a walk.
use Rattle.std.specs.Prelude.{◌≡◌, refl, ◌⊎◌, List, [], ◌∷◌, ℕ, ◌+◌, ◌*◌, ◌≤◌, ◌<◌, T, length}
use Rattle.std.proofs.Common.{sym, subst, ◌∙◌, inl, inr, arith}
use Rattle.timetable.specs.Timetable.{stations_most}
use Rattle.lists.specs.Lists.{◌∈◌, Distinct}
use Rattle.lists.specs.Members.{none, cons_cases}
use Rattle.lists.specs.Pigeonhole.{Within, pigeonhole}
use Rattle.results.specs.Results.{dominates}
use Rattle.results.proofs.Domination.{dominates_in, dominates_out}
use Rattle.connections.specs.Rides.{Ride}
use Rattle.connections.specs.Connections.{Change, Net, Connection, direct, onward, Feasible, Optimal, ready}
use Rattle.connections.specs.Connections.{departure, arrival, penalty, cost, pattern}
use Rattle.connections.specs.Planner.{ride_count}
use Rattle.connections.proofs.Sound.{Sound}
use Rattle.connections.proofs.Feasibility.{earlier, own_minute, takes_time, count_stations}

-- the stations at which its rides end, the target last
abbrev pub alighted_at : Connection → List ℕ
alighted_at (direct r) = r.to ∷ []
alighted_at (onward r w c) = w.from ∷ alighted_at c

-- the stations boarded at after changes
abbrev pub boarded_at : Connection → List ℕ
boarded_at (direct r) = []
boarded_at (onward r w c) = w.to ∷ boarded_at c

pub count_alighted : (c : Connection) → length (alighted_at c) ≡ ride_count c
count_alighted (direct r) = refl
count_alighted (onward r w c) = omega (arith, count_alighted c)

-- domination does not turn on the minute from which both durations are measured
pub same_shift : (t u : ℕ) (e c : Connection) → t ≤ arrival e → t ≤ arrival c → u ≤ arrival e → u ≤ arrival c
    → T (dominates (cost t e) (cost t c)) → T (dominates (cost u e) (cost u c))
same_shift t u e c h₁ h₂ h₃ h₄ d =
    let k = dominates_out (cost t e) (cost t c) d in
    dominates_in (cost u e) (cost u c) (omega arith)

module _ (n : Net) (ok : Sound n) where
  -- theorem 2
  pub optimal_own_minute : (a t b : ℕ) (c : Connection) → Optimal n a t b c → Optimal n a (departure c) b c
  optimal_own_minute a t b c o = record { feasible = own.1; undominated = undominated }
    where
      own : (t ≤ departure c) × Feasible n a (departure c) b c
      own = own_minute n a t b c o.feasible

      undominated : (e : Connection) → Feasible n a (departure c) b e
          → ¬ T (dominates (cost (departure c) e) (cost (departure c) c))
      undominated e f d =
          let h = own.0 in
          let p = takes_time n ok a (departure c) b e f in
          let q = takes_time n ok a (departure c) b c own.1 in
          o.undominated
          e
          (earlier n a t (departure c) b e h f)
          (same_shift (departure c) t e c (omega arith) (omega arith) (omega arith) (omega arith) d)

  -- what is left of an optimal connection after a change is optimal
  pub optimal_rest : (a t b : ℕ) (r : Ride) (w : Change) (c : Connection)
      → Optimal n a t b (onward r w c) → Optimal n w.to (ready r w) b c
  optimal_rest a t b r w c o = record { feasible = o.feasible.2; undominated = undominated }
    where
      undominated : (e : Connection) → Feasible n w.to (ready r w) b e
          → ¬ T (dominates (cost (ready r w) e) (cost (ready r w) c))
      undominated e f d =
          let k = dominates_out (cost (ready r w) e) (cost (ready r w) c) d in
          let p = takes_time n ok w.to (ready r w) b e f in
          let q = takes_time n ok w.to (ready r w) b c o.feasible.2 in
          let h = ok.forward r o.feasible.0.listed in
          let g = o.feasible.0.timely in
          o.undominated
          (onward r w e)
          (o.feasible.0, o.feasible.1, f)
          (dominates_in (cost t (onward r w e)) (cost t (onward r w c)) (omega arith))

  -- ---- alighting
  -- one who alights at y when c was not yet begun can go on as c does from there: by a change and a connection
  record Resumed (y u b : ℕ) (c : Connection) : Type 0 where
    change : Change
    rest : Connection
    minute : ℕ
    listed : change ∈ n.changes
    here : change.from ≡ y
    late : u ≤ minute
    feasible : Feasible n change.to (minute + change.minutes) b rest
    arrives : arrival rest ≡ arrival c
    within : change.points + penalty rest ≤ penalty c

  resumed : (x u b y : ℕ) (c : Connection) → Feasible n x u b c → y ∈ alighted_at c → (y ≡ b) ⊎ Resumed y u b c
  resumed x u b y (direct r) f m = cons_cases m (λ e. inl (e ∙ f.1)) none
  resumed x u b y (onward r w c) f m =
      cons_cases m (λ e. inr (here e)) (λ k. later (resumed w.to (ready r w) b y c f.2 k))
    where
      here : y ≡ w.from → Resumed y u b (onward r w c)
      here e =
          record {
            change = w;
            rest = c;
            minute = r.arrive;
            listed = f.1.listed;
            here = sym e;
            late = omega (arith, ok.forward r f.0.listed, f.0.timely);
            feasible = f.2;
            arrives = refl;
            within = omega arith;
          }

      later : (y ≡ b) ⊎ Resumed y (ready r w) b c → (y ≡ b) ⊎ Resumed y u b (onward r w c)
      later (inl e) = inl e
      later (inr k) =
          inr
          (record {
            change = k.change;
            rest = k.rest;
            minute = k.minute;
            listed = k.listed;
            here = k.here;
            late = omega (arith, ok.forward r f.0.listed, f.0.timely, k.late);
            feasible = k.feasible;
            arrives = k.arrives;
            within = omega (arith, k.within);
          })

  -- who alights at a station to come back to it could have gone on as the second time, and saved the change
  alights_once : (a t b : ℕ) (r : Ride) (w : Change) (c : Connection) → Optimal n a t b (onward r w c)
      → ¬ (w.from ∈ alighted_at c)
  alights_once a t b r w c o m = go (resumed w.to (ready r w) b w.from c o.feasible.2 m)
    where
      toll : 1 ≤ w.points
      toll = ok.toll w o.feasible.1.listed

      go : (w.from ≡ b) ⊎ Resumed w.from (ready r w) b c → ⊥
      go (inl e) =
          let k = takes_time n ok w.to (ready r w) b c o.feasible.2 in
          o.undominated
          (direct r)
          (o.feasible.0, sym o.feasible.1.here ∙ e)
          (dominates_in (cost t (direct r)) (cost t (onward r w c)) (omega (arith, toll)))
      go (inr k) =
          let v = k.change in
          let e = k.rest in
          let h = k.late in
          let on = earlier n v.to (ready r v) (k.minute + v.minutes) b e (omega arith) k.feasible in
          let p = k.arrives in
          let q = k.within in
          o.undominated
          (onward r v e)
          (o.feasible.0, record { listed = k.listed; here = k.here ∙ o.feasible.1.here }, on)
          (dominates_in (cost t (onward r v e)) (cost t (onward r w c)) (omega (arith, toll)))

  -- theorem 3: no two rides end at one station
  pub alighted_distinct : (a t b : ℕ) (c : Connection) → Optimal n a t b c → Distinct (alighted_at c)
  alighted_distinct a t b (direct r) o = (λ m. none m, tt)
  alighted_distinct a t b (onward r w c) o = (
    alights_once a t b r w c o,
    alighted_distinct w.to (ready r w) b c (optimal_rest a t b r w c o),
  )

  pub alighted_listed : (a t b : ℕ) (c : Connection) → Feasible n a t b c → Within n.stations (alighted_at c)
  alighted_listed a t b (direct r) f x m = cons_cases m (λ e. rw e (ok.arrives r f.0.listed)) none
  alighted_listed a t b (onward r w c) f x m =
      cons_cases
      m
      (λ e. rw e (ok.alights w f.1.listed))
      (alighted_listed w.to (ready r w) b c f.2 x)

  -- "a pattern has at most 64 rides"
  pub rides_few : (a t b : ℕ) (c : Connection) → Optimal n a t b c → ride_count c ≤ stations_most
  rides_few a t b c o =
      let distinct = alighted_distinct a t b c o in
      let listed = alighted_listed a t b c o.feasible in
      omega (arith, ok.few, count_alighted c, pigeonhole n.stations (alighted_at c) distinct listed)

  -- so its stations are 128 at the most, the source among them
  pub pattern_short : (a t b : ℕ) (c : Connection) → Optimal n a t b c → length (pattern a c) ≤ 2 * stations_most
  pattern_short a t b c o = omega (arith, rides_few a t b c o, count_stations c)

  -- ---- boarding
  -- a connection from a that arrives when c does, and costs less
  record Shorter (a t b : ℕ) (c : Connection) : Type 0 where
    rest : Connection
    feasible : Feasible n a t b rest
    arrives : arrival rest ≡ arrival c
    saves : penalty rest < penalty c

  -- a connection that boards at a station after a change can be begun there
  cut : (a x t b : ℕ) (c : Connection) → Feasible n x t b c → a ∈ boarded_at c → Shorter a t b c
  cut a x t b (direct r) f m = none m
  cut a x t b (onward r w c) f m = cons_cases m here (λ k. later (cut a w.to (ready r w) b c f.2 k))
    where
      late : t ≤ ready r w
      late = omega (arith, ok.forward r f.0.listed, f.0.timely)

      here : a ≡ w.to → Shorter a t b (onward r w c)
      here e =
          record {
            rest = c;
            feasible = earlier n a t (ready r w) b c late (subst (λ y. Feasible n y (ready r w) b c) (sym e) f.2);
            arrives = refl;
            saves = omega (arith, ok.toll w f.1.listed);
          }

      later : Shorter a (ready r w) b c → Shorter a t b (onward r w c)
      later y =
          record {
            rest = y.rest;
            feasible = earlier n a t (ready r w) b y.rest late y.feasible;
            arrives = y.arrives;
            saves = omega (arith, y.saves);
          }

  -- theorem 3: no two rides begin at one station
  pub boarded_distinct : (a t b : ℕ) (c : Connection) → Optimal n a t b c → Distinct (a ∷ boarded_at c)
  boarded_distinct a t b (direct r) o = (λ m. none m, tt)
  boarded_distinct a t b (onward r w c) o = (
    away,
    boarded_distinct w.to (ready r w) b c (optimal_rest a t b r w c o),
  )
    where
      away : ¬ (a ∈ boarded_at (onward r w c))
      away m =
          let y = cut a a t b (onward r w c) o.feasible m in
          let p = y.arrives in
          let q = y.saves in
          o.undominated
          y.rest
          y.feasible
          (dominates_in (cost t y.rest) (cost t (onward r w c)) (omega arith))
