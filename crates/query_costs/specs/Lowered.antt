-- What the code of a query promises for one stored pattern: it lowers the least penalties of the arrival minutes to
-- those of connections of the pattern, so that for each of them one is kept that arrives no later and costs no more.
use Rattle.std.specs.Prelude.{◌≡◌, ◌⊎◌, List, ℕ, ◌≤◌, length, get_or}
use Rattle.results.proofs.Best.{ByThen}
use Rattle.connections.specs.Connections.{Transfer, Net}
use Rattle.optimality.specs.Along.{Ends}
use Rattle.query_minutes.specs.Minutes.{no_points}

-- the penalty kept for a minute; past the end there is none
abbrev pub kept : List ℕ → (minute : ℕ) → ℕ
kept l m = get_or l m no_points

-- for a start at station a from minute t on, with the changes of rev, the last one first, and the end at b
pub record Lowered (n : Net) (a t : ℕ) (rev : List Transfer) (b : ℕ) (old new : List ℕ) : Type 0 where
  pub long : length new ≡ length old
  pub lower : (m : ℕ) → kept new m ≤ kept old m
  pub stems : (m : ℕ) → (kept new m ≡ kept old m) ⊎ Ends n a t rev b m (kept new m)
  pub below : (m p : ℕ) → Ends n a t rev b m p → ByThen (kept new) m p
