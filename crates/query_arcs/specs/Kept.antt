-- The least penalty for each minute of arrival, of the connections on a list.
use Rattle.std.specs.Prelude.{◌≡◌, List, ℕ, ◌≤◌, ◌<◌, get_or}
use Rattle.lists.specs.Lists.{◌∈◌}
use Rattle.results.proofs.Best.{ByThen}
use Rattle.connections.specs.Connections.{Connection, arrival, penalty}
use Rattle.query_minutes.specs.Minutes.{no_points}
use Rattle.query_costs.specs.Lowered.{kept}

-- for a query at minute u, over the list d
module _ (u : ℕ) (d : List Connection) where
  -- it arrives at u or later, for less than what is kept where no one arrives
  pub record Bounds (c : Connection) : Type 0 where
    pub from : u ≤ arrival c
    pub small : penalty c < no_points

  -- one on the list arrives at minute m for p points
  pub record At (m p : ℕ) : Type 0 where
    pub one : Connection
    pub listed : one ∈ d
    pub arrives : arrival one ≡ m
    pub pays : penalty one ≡ p

  -- w has for minutes the penalty of one who arrives then; for each of the list there is one that arrives no later and
  -- costs no more
  pub record LeastKept (w : List ℕ) : Type 0 where
    pub attained : (m : ℕ) → get_or w m no_points < no_points → At m (get_or w m no_points)
    pub low : (c : Connection) → c ∈ d → ByThen (kept w) (arrival c) (penalty c)
