-- Theorem 7: a connection is optimal exactly if it is feasible, has paid the least at every boarding, and ends on its
-- target's frontier. So the optimal ones are known from least penalties and frontiers, without listing connections.
use Rattle.std.specs.Prelude.{not, [], ℕ, suc, ◌≤◌, ◌<◌, T, ltb}
use native.Mathlib.Omega.{arith, by_contra}
use Rattle.std.proofs.Common.{ltb→lt, nltb→le}
use Rattle.lists.specs.Tests.{either}
use Rattle.results.proofs.Domination.{Better, dominates_in, dominates_out}
use Rattle.connections.specs.Connections.{Net, Connection, Feasible, Optimal, arrival, penalty}
use Rattle.connections.specs.Connections.{cost}
use Rattle.connections.proofs.Sound.{Sound}
use Rattle.connections.proofs.Feasibility.{takes_time}
use Rattle.optimality.specs.Along.{Arrives, Frontier}
use Rattle.optimality.specs.AlongLaws.{changed, changed_at, connection_ends}
use Rattle.optimality.specs.AlongLaws.{Sequenced, sequence_ends}

module _ (n : Net) (a t : ℕ) where
  pub arrives : (b : ℕ) (c : Connection) → Feasible n a t b c → Arrives n a t b (arrival c) (penalty c)
  arrives b c f = record { changed = changed_at [] c; ends = connection_ends n a t b c f }

  pub arrived : (b v p : ℕ) (g : Arrives n a t b v p) → Sequenced n a t g.changed b v p
  arrived b v p g = (sequence_ends n a t g.changed b v p).0 g.ends

  module _ (ok : Sound n) where
    optimal_least : (b : ℕ) (c e : Connection) → Optimal n a t b c → Feasible n a t b e → arrival e ≤ arrival c
        → penalty c ≤ penalty e
    optimal_least b c e o f h =
        let p = takes_time n ok a t b e f in
        let q = takes_time n ok a t b c o.feasible in
        by_contra
        (penalty c)
        (penalty e)
        (λ k. o.undominated e f (dominates_in (cost t e) (cost t c) (omega arith)))

    -- who is no later and pays no more, and is earlier or pays less, dominates
    unbeaten : (b : ℕ) (c e : Connection) → Optimal n a t b c → Feasible n a t b e → arrival e < arrival c
        → penalty c < penalty e
    unbeaten b c e o f h =
        let p = takes_time n ok a t b e f in
        let q = takes_time n ok a t b c o.feasible in
        by_contra
        (suc (penalty c))
        (penalty e)
        (λ k. o.undominated e f (dominates_in (cost t e) (cost t c) (omega arith)))

    pub optimal_frontier : (b : ℕ) (c : Connection) → Optimal n a t b c → Frontier n a t b (arrival c) (penalty c)
    optimal_frontier b c o = record { least = least; first = first }
      where
        least : (w q : ℕ) → Arrives n a t b w q → w ≤ arrival c → penalty c ≤ q
        least w q g h =
            let e = arrived b w q g in
            let k = e.arrives in
            omega (arith, e.pays, optimal_least b c e.connection o e.feasible (omega arith))

        first : (w q : ℕ) → Arrives n a t b w q → w < arrival c → penalty c < q
        first w q g h =
            let e = arrived b w q g in
            let k = e.arrives in
            omega (arith, e.pays, unbeaten b c e.connection o e.feasible (omega arith))

    pub frontier_optimal : (b : ℕ) (c : Connection) → Feasible n a t b c → Frontier n a t b (arrival c) (penalty c)
        → Optimal n a t b c
    frontier_optimal b c f h =
        record { feasible = f; undominated = λ e g d. clash e g (dominates_out (cost t e) (cost t c) d) }
      where
        clash : (e : Connection) → Feasible n a t b e → Better (cost t e) (cost t c) → ⊥
        clash e g k = either (ltb (arrival e) (arrival c)) earlier not_earlier
          where
            there : Arrives n a t b (arrival e) (penalty e)
            there = arrives b e g

            earlier : T (ltb (arrival e) (arrival c)) → ⊥
            earlier s =
                omega (arith, k, h.first (arrival e) (penalty e) there (ltb→lt (arrival e) (arrival c) s))

            not_earlier : T (not (ltb (arrival e) (arrival c))) → ⊥
            not_earlier s =
                let i = nltb→le (arrival e) (arrival c) s in
                let p = takes_time n ok a t b e g in
                let q = takes_time n ok a t b c f in
                omega (arith, k, h.least (arrival e) (penalty e) there (omega (arith, k)))
