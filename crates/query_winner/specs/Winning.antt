-- What is shown for an arrival minute and a penalty, and the winner as the code has it.
use Rattle.std.specs.Prelude.{◌≡◌, List, ℕ, ◌*◌, ◌≤◌, T, length, take}
use Rattle.lists.specs.Lists.{◌∈◌, before}
use Rattle.results.specs.Results.{Cost}
use Rattle.connections.specs.Connections.{Connection, departure, arrival, penalty}
use Rattle.connections.specs.Planner.{ride_count, numbers, tie_key}
use Rattle.query_minutes.specs.Minutes.{no_points, leads}
use Rattle.promises.specs.Query.{kept}
use Rattle.query_arcs.specs.Kept.{LeastKept}
use Rattle.query_winner.specs.declared.Winner.{Winner}

-- for a query at minute u, over the list d
module _ (u : ℕ) (d : List Connection) where
  -- what is shown for an arrival minute and a penalty: of those of that cost the first by the rule
  pub record Shows (c : Cost) (one : Connection) : Type 0 where
    pub listed : one ∈ d
    pub arrives : arrival one ≡ c.minutes
    pub pays : penalty one ≡ c.points
    pub first : (e : Connection) → e ∈ d → arrival e ≡ c.minutes → penalty e ≡ c.points
        → ¬ T (before (tie_key e) (tie_key one))

-- an arrival minute and a penalty
abbrev pub cost_of : (m p : ℕ) → Cost
cost_of m p = record { minutes = m; points = p }

-- minute m and penalty p lead: some row has them
pub record Leading (w s : List ℕ) (a b u m p : ℕ) : Type 0 where
  pub best : List ℕ
  pub least : LeastKept u (kept w s a b u) best
  pub leads : cost_of m p ∈ leads no_points 0 best

-- the winner stands for the connection: its rides are the first words of the array
pub record Holds (x : Winner) (shown : List ℕ) (one : Connection) : Type 0 where
  pub told : take (3 * x.rides) shown ≡ numbers one
  pub rides : x.rides ≡ ride_count one
  pub depart : x.depart ≡ departure one

-- the winner is what is shown for minute m and penalty p
pub record Winning (w s : List ℕ) (a b u m p : ℕ) (x : Winner) (shown : List ℕ) : Type 0 where
  pub one : Connection
  pub shows : Shows u (kept w s a b u) (cost_of m p) one
  pub holds : Holds x shown one
  pub few : x.rides ≤ 64
  pub long : length shown ≡ 192
